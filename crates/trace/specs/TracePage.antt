-- A page of a trace (docs/FORMAT.md, 'Traces'): the bytes of its text from a place on, as many as a lent buffer holds. Beside it, the number and the
-- turns that the text ends with.
use Rattle.std.specs.Prelude.{ℕ, List, ◌++◌, length, take, drop}
use Rattle.types.specs.Stages.{Stage.went, Stage.stopped as not_begun}
use Rattle.run.specs.Begin.{begin}
use Rattle.run.specs.Entry.{Begun}
use Rattle.run.specs.Run.{Outcome, Outcome.stopped, Outcome.jammed, run}
use Rattle.trace.specs.TraceText.{traces}

-- Number and turns -------------------------------------------------------------

-- of what a run comes to; no run of an accepted program jams
unfoldable pub stop_number : Outcome → ℕ
stop_number (stopped n t m) = n
stop_number jammed = 0

unfoldable pub stop_turns : Outcome → ℕ
stop_turns (stopped n t m) = t
stop_turns jammed = 0

-- of what program and table come to
unfoldable pub begun_number : Begun → List ℕ → ℕ
begun_number (not_begun n) es = n
begun_number (went (p, rs)) es = stop_number (run p (begin p rs) es)

unfoldable pub begun_turns : Begun → List ℕ → ℕ
begun_turns (not_begun n) es = 0
begun_turns (went (p, rs)) es = stop_turns (run p (begin p rs) es)

-- program image, table image, turn bytes
unfoldable pub traced_number : List ℕ → List ℕ → List ℕ → ℕ
traced_number x y es = begun_number (traces x y es) es

unfoldable pub traced_turns : List ℕ → List ℕ → List ℕ → ℕ
traced_turns x y es = begun_turns (traces x y es) es

-- Pages ------------------------------------------------------------------------

-- the bytes of a text from the place i on, n of them at most
unfoldable pub page : ℕ → ℕ → List ℕ → List ℕ
page i n text = take n (drop i text)

-- as many as a buffer holds, in its front; its other bytes as they were
unfoldable pub paged : ℕ → List ℕ → List ℕ → List ℕ
paged i text out = page i (length out) text ++ drop (length (page i (length out) text)) out
