-- What is written of a run on images (docs/FORMAT.md, 'Traces'): the lines of its trace, and after them its number and turns. Of what is refused before a run
-- begins (1 to 12 and 14), the number alone.
use Rattle.std.specs.Prelude.{ℕ, List, [], ◌++◌, length, ltb}
use Rattle.types.specs.Limits.{max_turns}
use Rattle.types.specs.Numbers.{many_turns}
use Rattle.types.specs.Stages.{Stage.went, Stage.stopped as not_begun, on, asked}
use Rattle.program.specs.Tree.{Program}
use Rattle.machine.specs.Machine.{Machine}
use Rattle.run.specs.Begin.{begin}
use Rattle.run.specs.Entry.{Begun, images}
use Rattle.run.specs.Run.{Outcome, Outcome.stopped, Outcome.jammed, run}
use Rattle.trace.specs.Trace.{trace}
use Rattle.trace.specs.LineText.{trace_lines, end_text}

-- number and turns of what a run comes to; no run of an accepted program jams
unfoldable pub end_of : Outcome → List ℕ
end_of (stopped n t m) = end_text n t
end_of jammed = []

-- a run of a machine
unfoldable pub run_text : Program → Machine → List ℕ → List ℕ
run_text p m es = trace_lines p (trace p m es) ++ end_of (run p m es)

-- what program and table come to
unfoldable pub begun_text : Begun → List ℕ → List ℕ
begun_text (not_begun n) es = end_text n 0
begun_text (went (p, rs)) es = run_text p (begin p rs) es

-- 1 to 12 of the images, then 14; no list and no output is lent, so that there is no 13
unfoldable pub traces : List ℕ → List ℕ → List ℕ → Begun
traces x y es = on (images x y) λ q. asked (ltb max_turns (length es)) many_turns (went q)

-- program image, table image, turn bytes
unfoldable pub trace_text : List ℕ → List ℕ → List ℕ → List ℕ
trace_text x y es = begun_text (traces x y es) es
