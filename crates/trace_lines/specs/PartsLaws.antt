-- Laws of the parts of a line by the tests that lead to them, and of those that a loop writes.
use Prim.Native.Nat.{ℕ, zero, suc, ◌+◌, ◌-◌, ◌*◌, ◌/◌, ◌%◌, ◌<◌, ◌≤◌}
use native.Mathlib.Omega.{arith}
use Rattle.std.proofs.Math.Numerals.{add-one}
use Rattle.std.specs.Prelude.{◌≡◌, refl, Bool, eqb, ltb, length, get_or, Option, Some, None}
use Rattle.std.proofs.Common.{sym, ap, ◌∙◌, subst}
use Rattle.std.proofs.Math.Bool.{true, false}
use mathlib.Core.List.{List, [], ◌∷◌, ◌++◌, append_assoc, append-nil}
use Rattle.std.proofs.Math.ListN.{length-append}
use borrow.Author.Tests.{lt-ltb, le-ltb, eq-eqb, ne_eqb}
use Rattle.types.specs.Limits.{first_local, step_names, max_instances, max_depth}
use Rattle.types.specs.Types.{struct_code}
use Rattle.layout.specs.Layout.{head, head_size, struct_of, height_of, next_of, row_size, variable, stacked, type_byte, operand}
use Rattle.layout.specs.State.{state_of}
use Rattle.memory.specs.Fit.{WrFit, Needed}
use Rattle.layout.specs.Codes.{fix_code}
use Rattle.text.specs.Listing.{Placed, decimal}
use Rattle.text.specs.ListingLaws.{placed_none, placed_as, placed_on}
use Rattle.trace_lines.specs.declared.writes.Write.{Write}
use Rattle.trace_lines.specs.Parts.{tag_of, tag, worth, cell_text, cells_text, bit_text, entries_text, no_write, wr_kind, target_by, place_text}
use Rattle.trace_lines.specs.Parts.{values_text, write_text, Fitting, step_at}

-- Values -----------------------------------------------------------------------

module _ (heads : List ℕ) (c : ℕ) where
  pub tag_plain : type_byte c < struct_code → type_byte c ≡ tag heads c
  unfolding tag_of
  tag_plain h = rw (tag_of, lt-ltb (type_byte c) struct_code h)

  pub tag_label : struct_code ≤ type_byte c → struct_code + get_or heads (head (operand c) struct_of) 0 ≡ tag heads c
  unfolding tag_of
  tag_label h = rw (tag_of, le-ltb (type_byte c) struct_code h)

module _ (heads cells : List ℕ) (l : ℕ) {out : List ℕ} {k : ℕ} where
  pub cells_none : Placed (cells_text heads cells l 0) out k k out
  unfolding cells_text
  cells_none = placed_none out k

  -- a cell more
  pub cells_more : (h : ℕ) {i r : ℕ} {out1 out2 : List ℕ} → Placed (cells_text heads cells l h) out k i out1
      → Placed (cell_text heads (get_or cells (stacked l h) 0)) out1 i r out2
      → Placed (cells_text heads cells l (h + 1)) out k r out2
  unfolding cells_text
  cells_more h p q = rw add-one (placed_on p q)

  -- all of n
  pub cells_all : {h n r : ℕ} {out1 : List ℕ} → Placed (cells_text heads cells l h) out k r out1 → h ≤ n → n ≤ h
      → Placed (cells_text heads cells l n) out k r out1
  cells_all {h} {n} p a b = let e : n ≡ h = omega arith in rw e p

-- Entries ----------------------------------------------------------------------

-- i entries stand from k on, and those left lead to all
pub record BitsPassed (n s : ℕ) (out₀ : List ℕ) (k : ℕ) (out : List ℕ) (at left i : ℕ) : Type 0 where
  pub done : List ℕ
  pub placed : Placed done out₀ k at out
  pub joined : done ++ bit_text (n - i) left ≡ bit_text n s
  pub size : length done ≡ i
  pub within : i ≤ n

module _ {n s : ℕ} {out₀ : List ℕ} {k : ℕ} where
  pub bits_begin : BitsPassed n s out₀ k out₀ k s 0
  bits_begin =
      let e : n - 0 ≡ n = omega arith in
      record { done = []; placed = placed_none out₀ k; joined = rw e; size = refl; within = omega arith }

  module _ {out : List ℕ} {at left i : ℕ} (b : BitsPassed n s out₀ k out at left i) where
    pub bits_next : {at2 : ℕ} {out2 : List ℕ} → i < n → Placed ((48 + left % 2) ∷ []) out at at2 out2 → BitsPassed n s out₀ k out2 at2 (left / 2) (i + 1)
    unfolding bit_text
    bits_next h p =
        let e : n - i ≡ suc (n - (i + 1)) = omega arith in
        let j : b.done ++ bit_text (suc (n - (i + 1))) left ≡ bit_text n s = rw e at b.joined in
        record {
          done = b.done ++ (48 + left % 2) ∷ [];
          placed = placed_on b.placed p;
          joined = append_assoc b.done ((48 + left % 2) ∷ []) _ ∙ j;
          size = rw length-append (omega (arith, b.size));
          within = omega arith;
        }

    -- all of them, behind the letter
    pub bits_end : n ≤ i → {j : ℕ} {out1 : List ℕ} → Placed (32 ∷ 115 ∷ []) out1 j k out₀ → Placed (entries_text n s) out1 j at out
    unfolding bit_text entries_text
    bits_end h p =
        let e : n - i ≡ 0 = omega arith in
        let q : b.done ++ bit_text 0 left ≡ bit_text n s = rw e at b.joined in
        placed_on p (placed_as (sym q ∙ append-nil b.done) b.placed)

    pub bits_length : at ≡ k + i
    bits_length = omega (arith, b.placed.end, b.size)

-- Writes -----------------------------------------------------------------------

module _ (s : ℕ) (cells : List ℕ) (w t : ℕ) where
  pub target_other : (w % 256 ≡ wr_kind → ⊥) → no_write ≡ target_by s cells w t
  unfolding target_by
  target_other h = rw (target_by, ne_eqb (w % 256) wr_kind h)

  module _ (e : w % 256 ≡ wr_kind) where
    pub target_local : first_local ≤ operand w → no_write ≡ target_by s cells w t
    unfolding target_by
    target_local h = rw (target_by, eq-eqb (w % 256) wr_kind e, le-ltb (operand w) first_local h)

    module _ (x : operand w < first_local) where
      pub target_null : operand t < s → no_write ≡ target_by s cells w t
      unfolding target_by
      target_null h = rw (target_by, eq-eqb (w % 256) wr_kind e, lt-ltb (operand w) first_local x, lt-ltb (operand t) s h)

      pub target_found : s ≤ operand t
          → Some (record { label = operand t; variable = operand w; old = get_or cells (variable (operand t) (operand w)) 0 }) ≡ target_by s cells w t
      unfolding target_by
      target_found h = rw (target_by, eq-eqb (w % 256) wr_kind e, lt-ltb (operand w) first_local x, le-ltb (operand t) s h)

-- of equal labels and variables
pub same_target : (cells : List ℕ) (q x q' x' : ℕ) → q ≡ q' → x ≡ x'
    → ◌≡◌ {A = Option Write} (Some (record { label = q; variable = x; old = get_or cells (variable q x) 0 }))
    (Some (record { label = q'; variable = x'; old = get_or cells (variable q' x') 0 }))
same_target cells q x q' x' e f = rw (e, f)

module _ (cells : List ℕ) (w : Option Write) where
  pub write_none : w ≡ None → write_text cells w ≡ []
  unfolding write_text
  write_none e = rw (e, write_text)

  pub write_some : {v : Write} → w ≡ Some v
      → write_text cells w ≡ place_text v.label v.variable ++ values_text v.old (get_or cells (variable v.label v.variable) 0)
  unfolding write_text
  write_some e = rw (e, write_text)

-- the next command of instance l finds what it needs
module _ {list counts heads cells : List ℕ} {l : ℕ} (f : Fitting list counts heads cells l) where
  abbrev word : ℕ
  word = get_or list (get_or heads (head l next_of) 0) 0

  abbrev height : ℕ
  height = get_or heads (head l height_of) 0

  abbrev top : ℕ
  top = get_or cells (stacked l (height - 1)) 0

  pub fit_rows : (length heads ≡ head_size * max_instances) × (length cells ≡ row_size * max_instances) × (l < max_instances)
      × (get_or heads (head l next_of) 0 < length list)
  fit_rows =
      let a = f.1.heads_long in
      let b = f.1.cells_long in
      let c = f.1.chosen in
      let d = f.1.few in
      let e = f.1.next in
      let g = f.1.within in
      (a, b, omega arith, omega arith)

  pub fit_write : word % 256 ≡ wr_kind → (1 ≤ height) × (height ≤ max_depth) × (operand top < max_instances)
  fit_write e =
      let w : WrFit height top f.0.count (operand word) (get_or heads (head (operand top) struct_of) 0) (length counts) =
      subst (λ (k : ℕ). Needed counts l (state_of f.0 heads cells) k (operand word)) e f.1.needed in
      let a = w.two in
      let b = w.low in
      let c = w.target in
      let d = f.1.few in
      (omega arith, b, omega arith)

-- Steps ------------------------------------------------------------------------

module _ (n c : ℕ) where
  pub step_started : c < fix_code → c % step_names ≡ step_at n c
  unfolding step_at
  step_started h = rw (step_at, lt-ltb c fix_code h)

  pub step_kept : fix_code ≤ c → n ≡ step_at n c
  unfolding step_at
  step_kept h = rw (step_at, le-ltb c fix_code h)

  -- it is one of the names
  pub step_below : n < step_names → step_at n c < step_names
  unfolding step_at
  step_below h = go (ltb c fix_code)
    where
      go : (b : Bool) → elim b [ true ↦ c % step_names | false ↦ n ] < step_names
      go true = omega arith
      go false = h
