-- The text of a trace on a page (docs/FORMAT.md, 'Traces'): a lent buffer holds the bytes from a place on, as many as it has room for. What is answered of it.
use Rattle.std.specs.Prelude.{ℕ, ◌+◌, ◌≡◌, List, ◌++◌, length}
use Rattle.program.specs.Tree.{Program}
use Rattle.run.specs.Entry.{images, with_table}
use Rattle.seating.specs.declared.Opened.{Opened}
use Rattle.seating.specs.Seated.{Opens}
use Rattle.trace.specs.TraceText.{trace_text}
use Rattle.trace.specs.TracePage.{traced_number, traced_turns, page, paged}
use Rattle.trace_images.specs.declared.Traced.{Traced}
use Rattle.trace_images.specs.declared.pages.Page.{Page}

-- before the first line
abbrev pub blank : ℕ → Page
blank i = record { from = i; length = 0 }

-- n bytes more
abbrev pub longer : Page → ℕ → Page
longer g n = record { from = g.from; length = g.length + n }

-- of a text so far: its bytes are counted, and the buffer that was lent shows its page
pub record Paged (text lent : List ℕ) (g : Page) (out : List ℕ) : Type 0 where
  pub counted : g.length ≡ length text
  pub shown : out ≡ paged g.from text lent

-- t behind any text, whatever was lent
abbrev pub Grows : Page → List ℕ → List ℕ → List ℕ → Type 0
Grows g t out out' = (text lent : List ℕ) → Paged text lent g out → Paged (text ++ t) lent (longer g (length t)) out'

-- What is answered -------------------------------------------------------------

-- a run's number and turns, its text, and its page from the place i on in a buffer of so many bytes
abbrev pub traced : ℕ → ℕ → List ℕ → ℕ → ℕ → Traced
traced number turns text i room = record { number = number; turns = turns; length = length text; count = length (page i room text) }

-- it is answered, and the buffer shows the page
pub record Answered (number turns : ℕ) (text : List ℕ) (i : ℕ) (lent : List ℕ) (r : Traced) (out : List ℕ) : Type 0 where
  pub answers : r ≡ traced number turns text i (length lent)
  pub shows : out ≡ paged i text lent

-- whatever program is opened, and whatever its image
abbrev pub Begins : Opened → List ℕ → List ℕ → List ℕ → List ℕ → ℕ → List ℕ → Traced → List ℕ → Type 0
Begins o s rows y es i lent r out =
    (x : List ℕ) (p : Program) → Opens o s rows p → images x y ≡ with_table y p
    → Answered (traced_number x y es) (traced_turns x y es) (trace_text x y es) i lent r out
