-- What the writer of a table writes of memory that stands for a machine (01, 'Table and turns', 'Numbers from the state'): the stream
-- of the machine's table, in the blocks that a run is to leave in its output.
use Prim.Native.Nat.{ℕ, suc, ◌+◌, ◌-◌, ◌*◌, ◌<◌, ◌≤◌}
use native.Mathlib.Omega.{arith}
use Rattle.std.specs.Prelude.{◌≡◌, get_or, drop}
use Rattle.std.proofs.Math.Path.{refl, sym}
use Rattle.std.proofs.Common.{ap, ◌∙◌}
use Rattle.std.proofs.Math.Option.{Option, some}
use mathlib.Core.List.{List, [], ◌∷◌, ◌++◌, map}
use Rattle.std.proofs.Math.ListN.{length, get_elem?, length-map, length-drop, get_or-map}
use Rattle.types.specs.Limits.{max_params}
use Rattle.types.specs.Types.{code}
use Rattle.types.specs.Values.{Val, word}
use Rattle.program.specs.Tree.{Program}
use Rattle.program.specs.Encoding.{enc_word, flat}
use Rattle.program.specs.Counts.{Counts}
use Rattle.commands.specs.Context.{params_of}
use Rattle.table.specs.Table.{value_bytes, count_bytes, enc_value, enc_record, enc_table}
use Rattle.table.proofs.Laws.SizeLaws.{each_length, few_params}
use Rattle.machine.specs.Published.{Sched, Env, Env.env, lookup, structs}
use Rattle.machine.specs.Machine.{Instance, Machine}
use Rattle.run.specs.Begin.{params_in, record_of, table_of}
use Rattle.sound.specs.Needs.{ValueAmong}
use Rattle.sound.specs.Invariant.{Job, Fitted, GoodAll}
use Rattle.sound.specs.Tabled.{Tabled}
use Rattle.sound.proofs.Laws.ElemLaws.{at_below, at_drop}
use Rattle.sound.proofs.Laws.EnvLaws.{param_at}
use Rattle.layout.specs.Layout.{row_size, operand, variable}
use Rattle.layout.specs.State.{State, of_cell}
use Rattle.memory.proofs.Laws.CellLaws.{operand_part, code_byte}
use Rattle.memory.specs.Stands.{Shows, Stands}
use Rattle.table_read.specs.Refer.{struct_in}
use Rattle.table_read.specs.Laws.LaidLaws.{at_place}
use Rattle.table_read.specs.Laws.BeginStands.{few_all}
use Rattle.table_write.specs.Written.{cells_bytes, rows_bytes, memory_stream, Filled}

-- the number in a cell that shows a value
shown_word : (c : ℕ) (x : Val) → Shows c x → operand c ≡ word x
shown_word c x s = ap operand s.is ∙ operand_part 1 (code s.by) (word x) (omega arith) (code_byte s.by s.typed)

-- cells that show values have their bytes
cells_are : (c : List ℕ) (a : ℕ) (vs : List Val) → ((v : ℕ) (x : Val) → get_elem? vs v ≡ some x → operand (get_or c (a + v) 0) ≡ word x)
    → cells_bytes c a (length vs) ≡ flat enc_value vs
unfolding cells_bytes flat enc_value
cells_are c a [] f = refl
cells_are c a (v ∷ vs) f =
    let z : a + 0 ≡ a = omega arith in
    let e : operand (get_or c a 0) ≡ word v = rw z at (f 0 v refl) in
    rw e
    (ap (λ l. enc_word value_bytes (word v) ++ l)
    (cells_are c (suc a) vs λ u x g. let w : a + suc u ≡ suc a + u = omega arith in rw w at (f (suc u) x g)))

-- the instances is stand from l on, each with its struct and the bytes of its parameters
module _ (cs h c : List ℕ) where
  abbrev Bytes : ℕ → Instance → Type 0
  Bytes l i = (struct_in h l ≡ i.struct) × (cells_bytes c (row_size * l) (get_or cs i.struct 0) ≡ flat enc_value (params_in i.env))

  rows_are : (l : ℕ) (is : List Instance) → ((j : ℕ) (i : Instance) → get_elem? is j ≡ some i → Bytes (l + j) i)
      → rows_bytes cs h c l (length is) ≡ flat enc_record (map record_of is)
  unfolding rows_bytes flat enc_record record_of
  rows_are l [] f = refl
  rows_are l (i ∷ is) f =
      let z : l + 0 ≡ l = omega arith in
      let b : Bytes l i = rw z at (f 0 i refl) in
      rw (b.0, b.1)
      (ap (λ r. (i.struct ∷ flat enc_value (params_in i.env)) ++ r)
      (rows_are (suc l) is λ j k e. let w : l + suc j ≡ suc l + j = omega arith in rw w at (f (suc j) k e)))

module _ (p : Program) (counts : Counts p) (list : List ℕ) (P : ℕ → Sched → Type 0) (m : Machine) (z : State) (st : Stands list P m z)
    {r : Option Job} (good : GoodAll p r m.instances) (tabled : Tabled p m.instances) where
  abbrev cs : List ℕ
  cs = map length p.params

  struct_is : (l : ℕ) (i : Instance) → get_elem? m.instances l ≡ some i → struct_in z.heads l ≡ i.struct
  struct_is l i e = (st.each l i e).struct

  -- the parameters of an instance
  params_are : (l : ℕ) (i : Instance) → get_elem? m.instances l ≡ some i
      → cells_bytes z.cells (row_size * l) (get_or cs i.struct 0) ≡ flat enc_value (params_in i.env)
  params_are l i e = go i.env (good.each l i e).fitted (st.each l i e).vars
    where
      few : length (params_of p i.struct) ≤ max_params
      few = few_params max_params p.params (few_all p counts) i.struct

      go : (ξ : Env) → Fitted m.instances (params_of p i.struct) ξ → ((v : ℕ) (x : Val) → lookup ξ v ≡ some x → Shows (of_cell z (variable l v)) x)
          → cells_bytes z.cells (row_size * l) (get_or cs i.struct 0) ≡ flat enc_value (params_in ξ)
      go (env ps ls) f s =
          let n : length ps ≡ length (params_of p i.struct) = each_length (ValueAmong m.instances) (params_of p i.struct) ps f.0 in
          rw (get_or-map length p.params i.struct [], ← n)
          (cells_are z.cells (row_size * l) ps λ v x q.
          let b : v < length ps = at_below ps v x q in
          shown_word (of_cell z (variable l v)) x (s v x (param_at ps ls v (omega (arith, few)) ∙ q)))

  structs_are : length cs ≡ structs p
  structs_are = length-map p.params length

  -- the null ones are not written
  pub null_ones : length cs ≤ z.machine.count
  null_ones = omega (arith, structs_are, st.counted, tabled.null_ones)

  pub filled : Filled cs z.heads z.cells z.machine.count
  unfolding Counts
  filled = record {
    few = omega (arith, structs_are, counts.0.1);
    each = λ k. rw (get_or-map length p.params k []) (few_params max_params p.params (few_all p counts) k);
    structs = λ l b.
        let (i, e) = at_place m.instances l (rw st.counted at b) in
        omega (arith, structs_are, struct_is l i e, (tabled.each l i e).0);
    most = st.few;
    heads_long = omega (arith, st.heads_long, st.few);
    cells_long = omega (arith, st.cells_long, st.few);
  }

  -- the stream is that of the machine's table
  pub stream_stands : memory_stream cs z.heads z.cells z.machine.count ≡ enc_table (table_of p m)
  unfolding memory_stream enc_table table_of
  stream_stands =
      let n : z.machine.count - length cs ≡ length (drop (structs p) m.instances) =
      omega (arith, structs_are, st.counted, length-drop (structs p) m.instances) in
      let k : length (map record_of (drop (structs p) m.instances)) ≡ length (drop (structs p) m.instances) =
      length-map (drop (structs p) m.instances) record_of in
      rw (n, k, structs_are)
      (ap (λ l. enc_word count_bytes (length (drop (structs p) m.instances)) ++ l)
      (rows_are cs z.heads z.cells (structs p) (drop (structs p) m.instances) λ j i e.
      let q : get_elem? m.instances (structs p + j) ≡ some i = sym (at_drop (structs p) m.instances j) ∙ e in
      (struct_is (structs p + j) i q, params_are (structs p + j) i q)))
