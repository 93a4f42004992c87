-- `of_struct` meets its contract. The invariant: once the steps that are left are written, all are. The measure is how many are left.
use Rattle.std.proofs.Common.{◌+◌, ◌-◌, ◌≡◌, get_or, arith, [], ◌∷◌}
use Rattle.program.specs.Reader.{read_step}
use Rattle.commands.specs.ProgramWords.{step_words, steps_words}
use Rattle.commands.proofs.ProgramWordsLaws.{no_steps, more_steps}
use Rattle.emit.specs.Laws.PartsLaws.{part_ready, part_same, rest_all, rest_ready, rest_next, rest_none}
use Rattle.emit_steps.specs.StepLaws.{count_part}
use Rattle.emit_steps.proofs.of_struct.Goals as goal

pub bounds-s-at : goal.bounds-s-at
bounds-s-at c = (count_part _ _ _ c.requires.good).0

pub overflow_add-z : goal.overflow_add-z
overflow_add-z c = omega (arith, (count_part _ _ _ c.requires.good).0)

pub loop-x-init : goal.loop-x-init
loop-x-init c =
    let whole : get_or c.args.s.now c.args.p.next 0 - 0 ≡ get_or c.args.s.now c.args.p.next 0 = omega arith in rw whole (let pre = c.requires in rest_all _ (part_ready (count_part _ _ _ pre.good).1 pre))

pub step-z-requires : goal.step-z-requires
step-z-requires c =
    rest_ready steps_words step_words [] ◌∷◌ (read_step _ _) _ c.loop-x.invariant more_steps (λ z. omega arith)

pub loop-x-preserved : goal.loop-x-preserved
loop-x-preserved c =
    let one : get_or c.args.s.now c.args.p.next 0 - (c.loop-x.x + 1) ≡ get_or c.args.s.now c.args.p.next 0 - c.loop-x.x - 1 = omega arith in rw one (rest_next steps_words step_words [] ◌∷◌ (read_step _ _) _ c.loop-x.invariant more_steps (λ z. omega arith) c.step-z.ensures)

pub shape_of-list : goal.shape_of-list
shape_of-list c = c.loop-x.invariant.kept

pub returns : goal.returns
returns c =
    part_same (count_part _ _ _ c.requires.good).1
    (rest_none steps_words step_words [] ◌∷◌ (read_step _ _) _ c.loop-x.invariant no_steps (omega arith))
