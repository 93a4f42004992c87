-- Programs are read exactly (01, 'Program stream'), and what that says of whole streams (4 and 5 of 'Numbers from the input').
use Rattle.std.specs.Prelude.{ℕ, ◌≡◌, refl, ◌↔◌, List, [], ◌∷◌, ◌++◌, map, length}
use Rattle.std.proofs.Common.{append_assoc}
use Rattle.types.specs.Limits.{max_structs, max_params}
use Rattle.types.specs.Types.{code, IsType}
use Rattle.program.specs.Tree.{Program}
use Rattle.program.specs.Encoding.{enc_list, enc_program}
use Rattle.program.specs.Counts.{Few, Counts}
use Rattle.program.specs.Reader.{Result.ok, Result.bad, wrong_end, wrong_byte, read_params, read_program, read}
use Rattle.program.specs.Exact.{Exact, Refused}
use Rattle.program.proofs.Laws.JoinLaws.{made_exact, pair_exact, row_exact, flat_row, list_exact}
use Rattle.program.proofs.Laws.WordLaws.{type_exact}
use Rattle.program.proofs.Laws.StmtLaws.{steps_exact}
use Rattle.program.proofs.Laws.ItemLaws.{schedule_exact}
use Rattle.program.proofs.Laws.StreamLaws.{exact, injective, trailing, refused, final, first}

-- for each struct its parameters' types, which may name any struct
pub params_exact : Exact (λ ts. Few 1 max_structs (Few 0 max_params (IsType (length ts))) ts) (enc_list (enc_list (λ t. code t ∷ []))) read_params
unfolding read_params
params_exact = list_exact 1 max_structs λ S. list_exact 0 max_params λ i. type_exact S

-- the reader reads the programs within the counts where their bytes stand, and nothing else
pub program_exact : Exact Counts enc_program read_program
unfolding read_program Counts enc_program
program_exact =
    made_exact
    (pair_exact params_exact λ ts.
    pair_exact (row_exact (steps_exact (map length ts)) (flat_row _ _) (length ts)) λ ss.
    schedule_exact (map length ts))
    (λ p. record { params = p.0; steps = p.1.0; schedule = p.1.1 }) (λ p. (p.params, (p.steps, p.schedule)))
    (λ p h. ((h.0, h.1.0.0, h.1.0.1, h.1.1), rw append_assoc))
    (λ p h. ((h.0, ((h.1, h.2), h.3)), refl))

-- a stream is read as a program exactly where the program is within the counts and the stream is its bytes
pub program_law : (s : List ℕ) (p : Program) (m : ℕ) → (read s ≡ ok p m) ↔ ((Counts p) × (s ≡ enc_program p) × (m ≡ length s))
unfolding read
program_law = exact program_exact

-- two programs within the counts that have the same bytes are one
pub enc_injective : (p q : Program) → Counts p → Counts q → enc_program p ≡ enc_program q → p ≡ q
enc_injective = injective program_exact

-- a stream that goes on after its end is refused there with 4
pub program_trailing : (p : Program) (b : ℕ) (bs : List ℕ) → Counts p → read (enc_program p ++ b ∷ bs) ≡ bad (length (enc_program p)) wrong_end
unfolding read
program_trailing = trailing program_exact

-- a byte that is not allowed is final, whatever stands behind it
pub program_final : (s t : List ℕ) (n : ℕ) → read s ≡ bad n wrong_byte → read (s ++ t) ≡ bad n wrong_byte
unfolding read
program_final = final program_exact

-- and it is the first place: the stream before it is refused only at its end, with 4
pub program_first : (s t : List ℕ) (b : ℕ) → read (s ++ b ∷ t) ≡ bad (length s) wrong_byte
    → (read s ≡ bad (length s) wrong_end) × (read (s ++ b ∷ []) ≡ bad (length s) wrong_byte)
unfolding read
program_first = first program_exact

-- what is refused is refused with 5 in the stream, with 4 at its end, or with 4 behind a program's bytes
pub program_refused : (s : List ℕ) (n k : ℕ) → read s ≡ bad n k → Refused Counts enc_program s n k
unfolding read
program_refused = refused program_exact
