-- What the readers of the parameter lists answer for what is read (01, 'Program stream'), and what they leave in the two tables.
use Rattle.std.specs.Prelude.{Result as Answered, Ok, Err, ℕ, ◌*◌, ◌≤◌, ◌≡◌, List, [], ◌∷◌, ◌++◌, map, length, drop, set}
use Rattle.std.proofs.lemmas.List.Edits.{sets}
use Rattle.types.specs.Limits.{max_params, max_structs}
use Rattle.types.specs.Types.{Ty}
use Rattle.program.specs.Reader.{Result, Result.ok, Result.bad, many, counted, read_type}
use Rattle.judge.specs.ProgramFacts.{row, types_table}

-- the parameters of one struct, of a program with S structs
unfoldable pub read_list : List ℕ → ℕ → ℕ → Result (List Ty)
read_list s S at = counted s 0 max_params (λ i m. many [] ◌∷◌ (read_type s S) i m) at

abbrev pub place_told : {A : Type 0} → Result A → Answered ℕ ℕ
place_told (ok a m) = Ok m
place_told (bad p n) = Err n

abbrev pub params_told : Result (List (List Ty)) → Answered (ℕ × ℕ) ℕ
params_told (ok tss m) = Ok (m, length tss)
params_told (bad p n) = Err n

-- the next place lies from there on
abbrev pub PlaceSpan : {E : Type 0} → List ℕ → ℕ → Answered ℕ E → Type 0
PlaceSpan s at (Ok m) = (at ≤ m) × (m ≤ length s)
PlaceSpan s at (Err k) = Unit {0}

abbrev pub ParamsSpan : {E : Type 0} → List ℕ → Answered (ℕ × ℕ) E → Type 0
ParamsSpan s (Ok (m, n)) = (1 ≤ n) × (n ≤ max_structs) × (m ≤ length s)
ParamsSpan s (Err k) = Unit {0}

-- Tables, by what they held before and after ------------------------------------------

-- the types stand in so much room, from a place on
abbrev pub RowKept : ℕ → ℕ → List ℕ → List ℕ → Result (List Ty) → Type 0
RowKept room place ts ts' (ok r m) = ts' ≡ sets ts place (row room r)
RowKept room place ts ts' (bad p n) = Unit {0}

-- the parameters of struct k stand at its places; those of structs from k on
abbrev pub ListKept : ℕ → List ℕ → List ℕ → List ℕ → List ℕ → Result (List Ty) → Type 0
ListKept k cs cs' ts ts' (ok r m) = (cs' ≡ set cs k (length r)) × (ts' ≡ sets ts (max_params * k) (row max_params r))
ListKept k cs cs' ts ts' (bad p n) = Unit {0}

abbrev pub ListsKept : ℕ → List ℕ → List ℕ → List ℕ → List ℕ → Result (List (List Ty)) → Type 0
ListsKept k cs cs' ts ts' (ok rs m) = (cs' ≡ sets cs k (map length rs)) × (ts' ≡ sets ts (max_params * k) (types_table rs))
ListsKept k cs cs' ts ts' (bad p n) = Unit {0}

-- the tables begin with those of all structs, and go on as before
abbrev pub ParamsKept : List ℕ → List ℕ → List ℕ → List ℕ → Result (List (List Ty)) → Type 0
ParamsKept cs cs' ts ts' (ok rs m) = (cs' ≡ map length rs ++ drop (length rs) cs) × (ts' ≡ types_table rs ++ drop (max_params * length rs) ts)
ParamsKept cs cs' ts ts' (bad p n) = Unit {0}
