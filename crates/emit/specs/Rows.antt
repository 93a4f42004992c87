-- The words of two structs' steps off their bytes: an update, an if with a declaration in it, a construct with a null; no step.
use Rattle.std.specs.Prelude.{ℕ, ◌≡◌, refl, List, [], ◌∷◌}
use Rattle.types.specs.Values.{word_int, value_of}
use Rattle.commands.specs.ProgramWords.{structs_words}
use Rattle.emit.specs.Written.{next_of, code_of, structs_at}
use Rattle.program.specs.Unfold.{steps}
use Rattle.commands.specs.Unfold.{compiling, coding}

abbrev bytes : List ℕ
bytes =
    1 ∷ 0 ∷ 3
    ∷ 3 ∷ 1 ∷ 0 ∷ 41 ∷ 18 ∷ 1 ∷ 0 ∷ 19 ∷ 5 ∷ 0 ∷ 0 ∷ 0
    ∷ 1 ∷ 21 ∷ 1 ∷ 1 ∷ 2 ∷ 1 ∷ 8 ∷ 20 ∷ 7 ∷ 0 ∷ 0 ∷ 0
    ∷ 4 ∷ 0 ∷ 22 ∷ 17
    ∷ 0 ∷ []

row_words : code_of structs_words (structs_at (1 ∷ 0 ∷ []) bytes 2 0)
    ≡ 2 ∷ 3 ∷ 21474836481 ∷ 176093659144 ∷ 2 ∷ 4
    ∷ 4294967809 ∷ 12884901894 ∷ 30064771329 ∷ 2 ∷ 34359738372
    ∷ 4294971649 ∷ 5 ∷ []
unfolding code_of steps compiling coding word_int value_of
row_words = refl

row_next : next_of (structs_at (1 ∷ 0 ∷ []) bytes 2 0) ≡ 32
unfolding next_of steps
row_next = refl
