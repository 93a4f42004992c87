-- One command on memory is the machine's command (01, 'Table and turns'): where memory holds a machine with the invariant, memory
-- after the command holds the next machine, or the command meets number 34 or 35 and the rest of memory is as it was.
use Rattle.std.specs.Prelude.{ℕ, suc, ◌%◌, ◌<◌, ◌≤◌, ◌≡◌, Bool, true, false, List, ◌∷◌, eqb}
use native.Mathlib.Omega.{arith}
use Rattle.std.proofs.Math.Path.{refl, ap, subst}
use Rattle.std.proofs.Common.{sym, ◌∙◌, inl, inr, eq-eqb, ne_eqb, eqb-true}
use Rattle.std.proofs.Math.Option.{some}
use Rattle.std.proofs.Math.ListN.{get_elem?}
use Rattle.std.proofs.lemmas.Bool.{eqb-false}
use Rattle.types.specs.Limits.{max_structs}
use Rattle.types.specs.Types.{Ty, Ty.int, Ty.nat, Ty.bool, Ty.ref, code}
use Rattle.types.specs.Values.{Val}
use Rattle.program.specs.Tree.{Program}
use Rattle.commands.specs.Coding.{coded, com_word, command_word}
use Rattle.commands.specs.Noted.{Note, Note.n_push, Note.n_this, Note.n_not, Note.n_rd, Note.n_wr, Note.n_get, Note.n_set, Note.n_cons, Note.n_op, Note.n_if}
use Rattle.commands.specs.Noted.{erase, now_written}
use Rattle.machine.specs.Published.{Sched}
use Rattle.machine.specs.Machine.{Instance, Machine, with_written, acting, Out, Out.next, Out.refused, Out.stuck, command, perform as machine_perform}
use Rattle.run.specs.Holders.{holds_code}
use Rattle.sound.specs.Invariant.{Good}
use Rattle.sound.specs.Firm.{Firm}
use Rattle.sound.proofs.Laws.Advance.{Kept}
use Rattle.sound.proofs.Laws.CommandKept.{Refused, commanded, turning_good, command_kept}
use Rattle.sound.specs.Sized.{Sized, Lasting, Lasting.an_int, Lasting.a_nat, Lasting.a_bool, Lasting.a_null}
use Rattle.layout.specs.Layout.{operand, holds}
use Rattle.layout.specs.State.{State, with_holding, with_from, refused as refusing}
use Rattle.memory.specs.Choose.{fewer}
use Rattle.memory.proofs.Laws.ChooseStands.{holds_same}
use Rattle.memory.specs.Act.{next_word, perform, turned, counted, act}
use Rattle.memory.specs.Stands.{Stands}
use Rattle.memory.specs.Frame.{Bounded, does, kind_of, operand_of, After, Goes}
use Rattle.memory.proofs.Laws.CellLaws.{kind_part, operand_part, code_byte}
use Rattle.memory.proofs.Laws.HeldLaws.{holds_word}
use Rattle.memory.proofs.Laws.ActorLaws.{actor_sized}
use Rattle.memory.proofs.Laws.StandsLaws.{numbered_stands}
use Rattle.memory.proofs.Laws.StackActs.{pushes, pushes_this, negates, branches, operates_on}
use Rattle.memory.proofs.Laws.VarActs.{reads_param, reads_local, writes, writes_own}
use Rattle.memory.proofs.Laws.ConsActs.{constructs_one}

-- A command's word ------------------------------------------------------------------

-- the byte of a push's type
lasting_byte : {S : ℕ} → S ≤ max_structs → {t : Ty} {v : Val} → Lasting S t v → code t < 256
lasting_byte h (an_int r) = code_byte int tt
lasting_byte h (a_nat r) = code_byte nat tt
lasting_byte h a_bool = code_byte bool tt
lasting_byte h (a_null {k = k} r) = code_byte (ref k) (omega arith)

-- kind and operand, with a type byte between them
word_parts : {S : ℕ} → S ≤ max_structs → (n : Note) → Sized S n → (t : ℕ) × (t < 256) × (command_word (erase n) ≡ coded (kind_of n) t (operand_of n))
unfolding command_word com_word erase
word_parts h (n_push t v) s = (code t, lasting_byte h s, refl)
word_parts h n_this s = (0, omega arith, refl)
word_parts h n_not s = (0, omega arith, refl)
word_parts h (n_rd k x) s = (0, omega arith, refl)
word_parts h (n_wr k x) s = (0, omega arith, refl)
word_parts h (n_get t x) s = (0, omega arith, refl)
word_parts h (n_set d t x) s = (0, omega arith, refl)
word_parts h (n_cons k) s = (0, omega arith, refl)
word_parts h (n_op o) s = (0, omega arith, refl)
word_parts h (n_if n) s = (0, omega arith, refl)

pub kind_bounds : (n : Note) → (1 ≤ kind_of n) × (kind_of n ≤ 8)
kind_bounds (n_push t v) = omega arith
kind_bounds n_this = omega arith
kind_bounds n_not = omega arith
kind_bounds (n_rd k x) = omega arith
kind_bounds (n_wr k x) = omega arith
kind_bounds (n_get t x) = omega arith
kind_bounds (n_set d t x) = omega arith
kind_bounds (n_cons k) = omega arith
kind_bounds (n_op o) = omega arith
kind_bounds (n_if n) = omega arith

-- the word of a command says its kind and its operand
pub word_says : {S : ℕ} → S ≤ max_structs → (n : Note) → Sized S n → (w : ℕ) → w ≡ command_word (erase n)
    → (w % 256 ≡ kind_of n) × (operand w ≡ operand_of n)
word_says h n s w e =
    let (t, b, q) = word_parts h n s in
    let k : kind_of n ≤ 8 = (kind_bounds n).1 in
    let r : w ≡ coded (kind_of n) t (operand_of n) = e ∙ q in
    let a : kind_of n < 256 = omega arith in
    (ap (λ (x : ℕ). x % 256) r ∙ kind_part (kind_of n) t (operand_of n) a b, ap (λ (x : ℕ). operand x) r ∙ operand_part (kind_of n) t (operand_of n) a b)

module _ (list counts : List ℕ) (l : ℕ) (z : State) where
  performs : (n : Note) → perform counts l z (kind_of n) (command_word (erase n)) (operand_of n) ≡ does counts l z n
  unfolding perform command_word com_word erase
  performs (n_push t v) = refl
  performs n_this = refl
  performs n_not = refl
  performs (n_rd k x) = refl
  performs (n_wr k x) = refl
  performs (n_get t x) = refl
  performs (n_set d t x) = refl
  performs (n_cons k) = refl
  performs (n_op o) = refl
  performs (n_if n) = refl

  act_does : {S : ℕ} → S ≤ max_structs → (n : Note) → Sized S n → next_word list z l ≡ command_word (erase n)
      → act list counts l z ≡ counted l z (does counts l z n)
  unfolding act
  act_does h n s w =
      let (a, b) = word_says h n s (next_word list z l) w in
      let q : perform counts l z (next_word list z l % 256) (next_word list z l) (operand (next_word list z l)) ≡ does counts l z n =
      rw (a, b, w) (performs n) in
      ap (counted l z) q

-- The command ------------------------------------------------------------------------

code_holds : {c r : List Note} {n : Note} → c ≡ n ∷ r → holds_code c ≡ true
unfolding holds_code
code_holds e = rw e

module _ {p : Program} {counts : List ℕ} (firm : Firm p) (bound : Bounded p counts) {m : Machine} (good : Good p m)
    (list : List ℕ) (P : ℕ → Sched → Type 0) (z : State) (st : Stands list P m z)
    (l : ℕ) (i : Instance) (at : get_elem? m.instances l ≡ some i) (c : List Note) where
  goes : (n : Note) → Goes p counts m list P z l i c n
  goes (n_push t v) = pushes firm bound good list P z st l i at c t v
  goes n_this = pushes_this firm bound good list P z st l i at c
  goes n_not = negates firm bound good list P z st l i at c
  goes (n_rd k v) = reads_param firm bound good list P z st l i at c k v
  goes (n_wr k v) = writes firm bound good list P z st l i at c k v
  goes (n_get t v) = reads_local firm bound good list P z st l i at c t v
  goes (n_set d t v) = writes_own firm bound good list P z st l i at c d t v
  goes (n_cons k) = constructs_one firm bound good list P z st l i at c k
  goes (n_op o) = operates_on firm bound good list P z st l i at c o
  goes (n_if n) = branches firm bound good list P z st l i at c n

-- turns are counted on behind a command that was taken, and from where they were behind a refused one
turned_taken : (l : ℕ) (y : State) → y.machine.number ≡ 0 → turned l y ≡ with_from y (suc l)
unfolding turned
turned_taken l y e = rw (turned, eq-eqb y.machine.number 0 e)

turned_refused : (l : ℕ) (y : State) → (y.machine.number ≡ 0 → ⊥) → turned l y ≡ y
unfolding turned
turned_refused l y e = rw (turned, ne_eqb y.machine.number 0 e)

-- memory holds a machine whichever label turns are counted from
acting_stands : (list : List ℕ) (P : ℕ → Sched → Type 0) (m : Machine) (z : State) → Stands list P m z → (l : ℕ) → Stands list P (acting l m) z
acting_stands list P m z st l = record {
  heads_long = st.heads_long;
  cells_long = st.cells_long;
  counted = st.counted;
  few = st.few;
  each = st.each;
  opened = st.opened;
  entries = st.entries;
  scheduled = st.scheduled;
  clear = st.clear;
}

module _ {p : Program} {counts : List ℕ} (firm : Firm p) (bound : Bounded p counts) {m : Machine} (good : Good p m)
    (list : List ℕ) (P : ℕ → Sched → Type 0) (z : State) (st : Stands list P m z)
    (l : ℕ) (i : Instance) (at : get_elem? m.instances l ≡ some i) (c : List Note) where
  -- the holders are counted, and turns are counted on: a refused actor still holds its commands, and counting stays
  after_counted : holds z.heads l ≡ true → (o : Out) → Kept p Refused o → (y : State) → After list P z y o → After list P z (counted l z y) o
  unfolding fewer
  after_counted h (next m') k y s = subst (Stands list P m') (sym (turned_taken l _ s.clear)) (numbered_stands list P m' y s _ (suc l))
  after_counted h (refused n) k y e =
      let w : with_holding (refusing n z) (fewer (holds z.heads l) z.machine.holding) ≡ refusing n z = rw (h, fewer) in
      ap (counted l z) e ∙ ap (turned l) w ∙ turned_refused l (refusing n z) (not_zero k)
    where
      not_zero : Refused n → n ≡ 0 → ⊥
      not_zero (inl a) b = omega arith
      not_zero (inr a) b = omega arith
  after_counted h stuck k y s = s

  -- a command of an instance that holds one
  pub acts : (n : Note) → i.code ≡ n ∷ c → After list P z (act list counts l z) (command p l m)
  acts n e =
      let w = holds_word list z l i (st.each l i at) n c e in
      let q : act list counts l z ≡ counted l z (does counts l z n) = act_does list counts l z bound.few n (actor_sized firm bound good l i at n c e) w in
      let o = machine_perform p (acting l m) l (with_written i (now_written n i.written)) n c in
      let h : holds z.heads l ≡ true = holds_same (st.each l i at) ∙ code_holds e in
      let k : Kept p Refused o = subst (Kept p Refused) (commanded p m l i n c at e) (command_kept firm good l i at n c e) in
      let g = goes firm bound (turning_good l good) list P z (acting_stands list P m z st l) l i at c n e in
      subst (After list P z (act list counts l z)) (sym (commanded p m l i n c at e))
      (subst (λ (u : State). After list P z u o) (sym q) (after_counted h o k (does counts l z n) g))

-- The label that turns are counted from ---------------------------------------------------

-- behind a command that was not refused it is the one after its actor (02, 'Turns that go round')
pub act_from : (list counts : List ℕ) (l : ℕ) (z : State) → (act list counts l z).machine.number ≡ 0 → (act list counts l z).machine.from ≡ suc l
unfolding act
act_from list counts l z e = go (perform counts l z (next_word list z l % 256) (next_word list z l) (operand (next_word list z l))) e
  where
    go : (y : State) → (counted l z y).machine.number ≡ 0 → (counted l z y).machine.from ≡ suc l
    go y e =
        let held = with_holding y (fewer (holds y.heads l) z.machine.holding) in
        by held (eqb held.machine.number 0) refl e
      where
        by : (h : State) (t : Bool) → eqb h.machine.number 0 ≡ t → (turned l h).machine.number ≡ 0 → (turned l h).machine.from ≡ suc l
        by h true t e = ap (λ (u : State). u.machine.from) (turned_taken l h (eqb-true h.machine.number 0 t))
        by h false t e =
            let q = eqb-false h.machine.number 0 t in
            absurd (q (sym (ap (λ (u : State). u.machine.number) (turned_refused l h q)) ∙ e))

-- The other numbers ------------------------------------------------------------------------

-- no other number is touched, nor memory
pub turned_only : (l : ℕ) (y : State) → turned l y ≡ with_from y (turned l y).machine.from
turned_only l y = go (eqb y.machine.number 0) refl
  where
    Only : State → Type 0
    Only x = x ≡ with_from y x.machine.from

    go : (t : Bool) → eqb y.machine.number 0 ≡ t → Only (turned l y)
    go true t = subst Only (sym (turned_taken l y (eqb-true y.machine.number 0 t))) refl
    go false t = subst Only (sym (turned_refused l y (eqb-false y.machine.number 0 t))) refl

-- what a command makes of the number of holders
pub act_counts : (list counts : List ℕ) (l : ℕ) (z : State)
    → (act list counts l z).machine.holding ≡ fewer (holds (act list counts l z).heads l) z.machine.holding
unfolding act
act_counts list counts l z =
    let y = perform counts l z (next_word list z l % 256) (next_word list z l) (operand (next_word list z l)) in
    let e = turned_only l (with_holding y (fewer (holds y.heads l) z.machine.holding)) in
    ap (λ (x : State). x.machine.holding) e ∙ ap (λ (x : State). fewer (holds x.heads l) z.machine.holding) (sym e)
