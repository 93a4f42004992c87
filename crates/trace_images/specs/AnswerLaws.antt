-- What is answered of images (docs/FORMAT.md, 'Traces'): a refusal's last line, or a run's text and its last line.
use Rattle.std.specs.Prelude.{ℕ, ◌<◌, ◌≤◌, ◌≡◌, List, ◌++◌, length}
use Rattle.types.specs.Limits.{max_turns}
use Rattle.types.specs.Numbers.{many_turns}
use Rattle.program.specs.Tree.{Program}
use Rattle.table.specs.Table.{Record}
use Rattle.machine.specs.Machine.{Machine}
use Rattle.run.specs.Begin.{begin}
use Rattle.run.specs.Entry.{begun, not_begun, images}
use Rattle.run.specs.Run.{Outcome.stopped, run}
use Rattle.trace.specs.Trace.{trace}
use Rattle.trace.specs.LineText.{trace_lines, end_text}
use Rattle.trace.specs.TraceText.{trace_text}
use Rattle.trace.proofs.TraceTextLaws.{refused_text, many_text, begun_run_text}
use Rattle.trace.specs.TracePage.{traced_number, traced_turns}
use Rattle.trace.proofs.TracePageLaws.{refused_stop, many_stop, begun_run_stop}
use Rattle.trace_images.specs.declared.Traced.{Traced}
use Rattle.trace_images.specs.Pages.{Answered}

module _ (x y es : List ℕ) {i : ℕ} {lent : List ℕ} {r : Traced} {out : List ℕ} where
  -- what is refused before the number of turns is looked at
  pub refused_answers : {k : ℕ} → images x y ≡ not_begun k → Answered k 0 (end_text k 0) i lent r out
      → Answered (traced_number x y es) (traced_turns x y es) (trace_text x y es) i lent r out
  refused_answers e a = let (n, t) = refused_stop x y es e in rw (n, t, refused_text x y es e) a

  module _ {p : Program} {rs : List Record} (b : images x y ≡ begun p rs) where
    -- too many turns
    pub many_answers : max_turns < length es → Answered many_turns 0 (end_text many_turns 0) i lent r out
        → Answered (traced_number x y es) (traced_turns x y es) (trace_text x y es) i lent r out
    many_answers h a = let (n, t) = many_stop x y es b h in rw (n, t, many_text x y es b h) a

    -- a run
    pub run_answers : length es ≤ max_turns → {k t : ℕ} {z : Machine} → run p (begin p rs) es ≡ stopped k t z
        → Answered k t (trace_lines p (trace p (begin p rs) es) ++ end_text k t) i lent r out
        → Answered (traced_number x y es) (traced_turns x y es) (trace_text x y es) i lent r out
    run_answers h q a = let (n, t) = begun_run_stop x y es b h q in rw (n, t, begun_run_text x y es b h q) a
