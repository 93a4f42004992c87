-- 01's program P as a stream ('Bench rows'), and what a program stream comes to with every definition open that it computes through: where
-- `checking` is unfolded, a row is a fact by computation.
use Rattle.std.specs.Prelude.{ℕ, ◌≤◌, ◌≡◌, refl, List, [], ◌∷◌, ◌++◌, length, drop}
use Rattle.std.proofs.Common.{arith, ap, ◌∙◌}
use Rattle.types.specs.Limits.{max_commands}
use Rattle.types.specs.Stages.{Stage.went as accepted, Stage.stopped as refused}
use Rattle.blocks.specs.Images.{image}
use Rattle.program.specs.Reader.{read}
use Rattle.program.specs.Rows.{reading}
use Rattle.commands.specs.Commands.{commands}
use Rattle.commands.specs.Decide.{every}
use Rattle.commands.specs.Numbers.{first}
use Rattle.commands.specs.ProgramWords.{program_words}
use Rattle.verdict.specs.Verdict.{Checked, judge, of_read, listed, list_of, check_list}
use Rattle.verdict.proofs.VerdictLaws.{checked_image, checks_room}
use Rattle.commands.specs.Unfold.{judging, coding}

-- P: load := load + prev.load, run once
unfoldable pub P : List ℕ
P = 1 ∷ 2 ∷ 0 ∷ 16 ∷ 1 ∷ 0 ∷ 1 ∷ 3 ∷ 1 ∷ 0 ∷ 41 ∷ 18 ∷ 1 ∷ 0 ∷ 18 ∷ 2 ∷ 1 ∷ 0 ∷ 1 ∷ 1 ∷ 0 ∷ []

-- what a program stream comes to
unfoldable pub checking : List ℕ → Checked
unfolding reading judging judge of_read
checking s = of_read (read s)

-- The list -----------------------------------------------------------------------------

abbrev words_by : Checked → List ℕ
words_by (accepted p) = program_words p
words_by (refused n) = []

list_words : (c : Checked) (list : List ℕ) → list_of c list ≡ words_by c ++ drop (length (words_by c)) list
unfolding list_of listed
list_words (refused n) list = refl
list_words (accepted p) list = refl

words_P : words_by (of_read (read P)) ≡ 2 ∷ 3 ∷ 2 ∷ 4294967299 ∷ 3 ∷ 176093659144 ∷ 2 ∷ 4 ∷ []
unfolding checking P coding
words_P = refl

-- P's commands stand in the first 8 places of the list, and further places are untouched: push this, rd 0, push this, rd 1, rd 0,
-- op 41, push this, wr 0
pub listed_P : (list : List ℕ) → max_commands ≤ length list
    → check_list (image P) list ≡ 2 ∷ 3 ∷ 2 ∷ 4294967299 ∷ 3 ∷ 176093659144 ∷ 2 ∷ 4 ∷ drop 8 list
unfolding check_list P
listed_P list h =
    ap (λ (c : Checked). list_of c list) (checks_room (image P) list h ∙ checked_image P (omega arith) (omega arith))
    ∙ list_words (of_read (read P)) list
    ∙ ap (λ (w : List ℕ). w ++ drop (length w) list) words_P
