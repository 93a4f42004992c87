-- Whether the references of the instances in memory are right (01, 'Table and turns').
use Rattle.std.specs.Prelude.{ℕ, zero, suc, ◌*◌, ◌<◌, Bool, true, false, ◌&&◌, List, get_or, ltb, eqb}
use Rattle.types.specs.Limits.{max_params}
use Rattle.types.specs.Types.{type_of}
use Rattle.types.specs.TypeBytes.{is_ref, struct_of as type_struct}
use Rattle.layout.specs.Layout.{head, struct_of, row_size, operand}

-- the struct of instance l
abbrev pub struct_in : List ℕ → ℕ → ℕ
struct_in h l = get_or h (head l struct_of) 0

-- the first n instances are of structs below S
abbrev pub Structs : List ℕ → ℕ → ℕ → Type 0
Structs h n S = (l : ℕ) → l < n → struct_in h l < S

-- whether a cell of the type with the byte t names one of the first n instances, of the type's struct
unfoldable pub cell_refers : List ℕ → ℕ → ℕ → ℕ → Bool
cell_refers h n t c =
    elim (is_ref (type_of t)) [
      | false ↦ true
      | true ↦ ltb (operand c) n && eqb (struct_in h (operand c)) (type_struct (type_of t))
    ]

-- of the m cells from a on, whose types stand from i on
unfoldable pub row_refers : List ℕ → ℕ → List ℕ → ℕ → List ℕ → ℕ → ℕ → Bool
row_refers h n ts i c a zero = true
row_refers h n ts i c a (suc m) = cell_refers h n (get_or ts i 0) (get_or c a 0) && row_refers h n ts (suc i) c (suc a) m

-- of the parameters of the m instances from l on
unfoldable pub rows_refer : List ℕ → List ℕ → List ℕ → List ℕ → ℕ → ℕ → ℕ → Bool
rows_refer cs ts h c n l zero = true
rows_refer cs ts h c n l (suc m) =
    row_refers h n ts (max_params * struct_in h l) c (row_size * l) (get_or cs (struct_in h l) 0) && rows_refer cs ts h c n (suc l) m
