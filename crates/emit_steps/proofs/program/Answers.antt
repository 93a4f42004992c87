-- `program` meets its contract. The invariant: once the steps of the structs that are left are written, all are. The measure is how many are left.
use Rattle.std.proofs.Common.{◌+◌, ◌-◌, ◌≡◌, length, arith, [], ◌∷◌}
use Rattle.program.specs.Reader.{read_steps}
use Rattle.commands.specs.ProgramWords.{steps_words, structs_words}
use Rattle.commands.proofs.ProgramWordsLaws.{no_structs, more_structs}
use Rattle.emit.specs.Laws.PartsLaws.{rest_all, rest_ready, rest_next, rest_none}
use Rattle.emit_steps.specs.ProgramLaws.{program_emitted}
use Rattle.emit_steps.proofs.program.Goals as goal

pub loop-k-init : goal.loop-k-init
loop-k-init c =
    let whole : length c.args.ar.now - 0 ≡ length c.args.ar.now = omega arith in rw whole (rest_all _ c.requires)

pub of_struct-z-requires : goal.of_struct-z-requires
of_struct-z-requires c =
    rest_ready structs_words steps_words [] ◌∷◌ (read_steps _ _) _ c.loop-k.invariant more_structs (λ z. omega arith)

pub loop-k-preserved : goal.loop-k-preserved
loop-k-preserved c =
    let one : length c.args.ar.now - (c.loop-k.k + 1) ≡ length c.args.ar.now - c.loop-k.k - 1 = omega arith in rw one (rest_next structs_words steps_words [] ◌∷◌ (read_steps _ _) _ c.loop-k.invariant more_structs (λ z. omega arith) c.of_struct-z.ensures)

pub shape_of-list : goal.shape_of-list
shape_of-list c = c.loop-k.invariant.kept

pub returns : goal.returns
returns c =
    let a = c.args in
    program_emitted a.ar.now a.s.now a.at a.list.now c.requires
    (rest_none structs_words steps_words [] ◌∷◌ (read_steps _ _) _ c.loop-k.invariant no_structs (omega arith))
