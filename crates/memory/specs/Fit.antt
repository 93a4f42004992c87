-- What the next command of an instance needs of memory, as plain bounds (01, 'The words of demand 3'): its places lie in the lists, its
-- operands are there and in their ranges, and its stack has room.
use Rattle.std.specs.Prelude.{ℕ, ◌+◌, ◌-◌, ◌*◌, ◌%◌, ◌<◌, ◌≤◌, ◌≡◌, true, false, List, length, get_or, eqb, Ok}
use Rattle.types.specs.Limits.{nat_end, max_structs, max_params, max_instances, max_depth, variables}
use Rattle.operators.specs.Words.{apply_word}
use Rattle.layout.specs.Layout.{head_size, row_size, struct_of, next_of, end_of, type_byte, operand}
use Rattle.layout.specs.State.{State, of_head}
use Rattle.memory.specs.Act.{height, top, beneath, next_word}

-- By the height h of the actor's stack, the cell t on top of it and the one beneath -----

-- push
pub record PushFit (h : ℕ) : Type 0 where
  pub room : h < max_depth

-- push this, by an instance of struct k
pub record ThisFit (h k : ℕ) : Type 0 where
  pub room : h < max_depth
  pub struct : k < max_structs

-- rd x: the label of one of n instances on top
pub record RdFit (h t n x : ℕ) : Type 0 where
  pub one : 1 ≤ h
  pub low : h ≤ max_depth
  pub target : operand t < n
  pub var : x < variables

-- wr x: the same, with a value beneath; that instance is of struct k, one of s
pub record WrFit (h t n x k s : ℕ) : Type 0 where
  pub two : 2 ≤ h
  pub low : h ≤ max_depth
  pub target : operand t < n
  pub var : x < variables
  pub struct : k < s

-- cons k: a value for each parameter, and room for the label
pub record ConsFit (counts : List ℕ) (h k : ℕ) : Type 0 where
  pub known : k < length counts
  pub struct : k < max_structs
  pub params : get_or counts k 0 ≤ max_params
  pub enough : get_or counts k 0 ≤ h
  pub low : h ≤ max_depth
  pub room : h - get_or counts k 0 < max_depth

-- not: a truth on top
pub record TruthFit (h t : ℕ) : Type 0 where
  pub one : 1 ≤ h
  pub low : h ≤ max_depth
  pub truth : operand t ≤ 1

-- if n: the same, and the n commands of its body stand before the end e of the actor's, whose next is a
pub record IfFit (h t a n e : ℕ) : Type 0 where
  pub test : TruthFit h t
  pub over : a + 1 + n ≤ e

-- op o: two words of four bytes, whose result is one
pub record OpFit (h b t o : ℕ) : Type 0 where
  pub two : 2 ≤ h
  pub low : h ≤ max_depth
  pub byte : o < 256
  pub left : operand b < nat_end
  pub right : operand t < nat_end
  pub result : (v : ℕ) → apply_word o (type_byte b) (operand b) (operand t) ≡ Ok v → v < nat_end

-- a command by its kind and its operand
module _ (counts : List ℕ) (l : ℕ) (z : State) where
  abbrev pub Needed : ℕ → ℕ → Type 0
  Needed kind v =
      let h = height counts l z in
      let t = top counts l z in
      elim (eqb kind 1) [
        | true ↦ PushFit h
        | false ↦ elim (eqb kind 2) [
          | true ↦ ThisFit h (of_head z l struct_of)
          | false ↦ elim (eqb kind 3) [
            | true ↦ RdFit h t z.machine.count v
            | false ↦ elim (eqb kind 4) [
              | true ↦ WrFit h t z.machine.count v (of_head z (operand t) struct_of) (length counts)
              | false ↦ elim (eqb kind 5) [
                | true ↦ ConsFit counts h v
                | false ↦ elim (eqb kind 6) [
                  | true ↦ IfFit h t (of_head z l next_of) v (of_head z l end_of)
                  | false ↦ elim (eqb kind 7) [ true ↦ TruthFit h t | false ↦ OpFit h (beneath counts l z) t v ]
                ]
              ]
            ]
          ]
        ]
      ]

-- instance l has a next command, which finds what it needs
pub record Fit (list counts : List ℕ) (l : ℕ) (z : State) : Type 0 where
  pub chosen : l < z.machine.count
  pub few : z.machine.count ≤ max_instances
  pub heads_long : length z.heads ≡ head_size * max_instances
  pub cells_long : length z.cells ≡ row_size * max_instances
  pub next : of_head z l next_of < of_head z l end_of
  pub within : of_head z l end_of ≤ length list
  pub least : 1 ≤ next_word list z l % 256
  pub greatest : next_word list z l % 256 ≤ 8
  pub needed : Needed counts l z (next_word list z l % 256) (operand (next_word list z l))
