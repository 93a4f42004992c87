-- Where a run begins, the entry answers what the published rules come to (000, section 4; 01, 'Numbers from the state').
use Rattle.std.specs.Prelude.{ℕ, ◌*◌, ◌≡◌, List, ◌++◌, length, drop}
use Rattle.std.proofs.Common.{ap, ◌∙◌}
use Rattle.block.specs.Block.{block_size}
use Rattle.blocks.specs.Images.{image, pieces}
use Rattle.program.specs.Tree.{Program}
use Rattle.commands.specs.Bounds.{program_depth}
use Rattle.table.specs.Table.{Record, enc_table}
use Rattle.run.specs.Entry.{begun, begins, report, report_of, output_of}
use Rattle.run.specs.Holders.{holders}
use Rattle.run.specs.Begin.{begin}
use Rattle.run.specs.Initial.{initially}
use Rattle.run.specs.Comes.{Comes}
use Rattle.run.proofs.Laws.BeginLaws.{begin_stands}
use Rattle.run.proofs.Laws.OutcomeLaws.{outcome_complete}
use Rattle.run.proofs.Laws.InputLaws.{begins_ready, ready_runs}
use Rattle.run.specs.Answered.{Answered}

-- number, turns, holders and last table of the rules are those of the answers
pub comes_answered : (x y es out list : List ℕ) (p : Program) (rs : List Record) → begins x y es out list ≡ begun p rs
    → {n t k : ℕ} {rs' : List Record} → Comes p (initially p rs) es n t k rs' → Answered x y es out list p n t k rs'
unfolding report_of output_of
comes_answered x y es out list p rs e {n} {t} {k} {rs'} c =
    let (z, q, h, w) = outcome_complete p (begin p rs) (begin_stands p rs) es c in
    let (a, b, d) = ready_runs x y es out list p rs ((begins_ready x y es out list p rs).0 e) in
    record {
      reported = a ∙ ap (report_of p) q ∙ ap (λ r. report n t (pieces (length (enc_table r))) (program_depth p) (length (holders z))) w
          ∙ ap (report n t (pieces (length (enc_table rs'))) (program_depth p)) h;
      written =
          b ∙ ap (λ o. output_of p o out) q
          ∙ ap (λ r. image (enc_table r) ++ drop (block_size * pieces (length (enc_table r))) out) w;
      listed = d;
    }
