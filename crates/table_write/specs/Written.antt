-- The stream of the instances in memory (01, 'Table and turns'): N, and for each instance but the null ones its struct byte and four
-- bytes for each parameter.
use Rattle.std.specs.Prelude.{ℕ, zero, suc, ◌-◌, ◌*◌, ◌≤◌, List, [], ◌∷◌, ◌++◌, length, get_or, drop}
use Rattle.types.specs.Limits.{max_structs, max_params, max_instances}
use Rattle.block.specs.Block.{block_size}
use Rattle.blocks.specs.Images.{image, pieces}
use Rattle.program.specs.Encoding.{enc_word}
use Rattle.table.specs.Table.{value_bytes, count_bytes}
use Rattle.layout.specs.Layout.{head_size, row_size, operand}
use Rattle.table_read.specs.Refer.{struct_in, Structs}

-- the bytes of the m cells from a on
unfoldable pub cells_bytes : List ℕ → ℕ → ℕ → List ℕ
cells_bytes c a zero = []
cells_bytes c a (suc m) = enc_word value_bytes (operand (get_or c a 0)) ++ cells_bytes c (suc a) m

-- the bytes of instance l
abbrev pub row_bytes : List ℕ → List ℕ → List ℕ → ℕ → List ℕ
row_bytes cs h c l = struct_in h l ∷ cells_bytes c (row_size * l) (get_or cs (struct_in h l) 0)

-- of the m instances from l on
unfoldable pub rows_bytes : List ℕ → List ℕ → List ℕ → ℕ → ℕ → List ℕ
rows_bytes cs h c l zero = []
rows_bytes cs h c l (suc m) = row_bytes cs h c l ++ rows_bytes cs h c (suc l) m

-- the table of n instances; the null ones are as many as structs
unfoldable pub memory_stream : List ℕ → List ℕ → List ℕ → ℕ → List ℕ
memory_stream cs h c n = enc_word count_bytes (n - length cs) ++ rows_bytes cs h c (length cs) (n - length cs)

-- how many blocks it takes, and the output with them in front, later bytes untouched
abbrev pub memory_blocks : List ℕ → List ℕ → List ℕ → ℕ → ℕ
memory_blocks cs h c n = pieces (length (memory_stream cs h c n))

abbrev pub memory_image : List ℕ → List ℕ → List ℕ → ℕ → List ℕ → List ℕ
memory_image cs h c n out = image (memory_stream cs h c n) ++ drop (block_size * memory_blocks cs h c n) out

-- n instances of structs with at most 8 parameters stand in memory
pub record Filled (cs h c : List ℕ) (n : ℕ) : Type 0 where
  pub few : length cs ≤ max_structs
  pub each : (k : ℕ) → get_or cs k 0 ≤ max_params
  pub structs : Structs h n (length cs)
  pub most : n ≤ max_instances
  pub heads_long : head_size * n ≤ length h
  pub cells_long : row_size * n ≤ length c
