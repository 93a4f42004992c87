-- What following zero bytes answers (02 §11): an answer of each kind is what the order comes to, and an order that completes the step and touches apart
-- is answered so.
use Prim.Native.Nat.{ℕ, zero, suc, ◌+◌, ◌<◌, ◌≤◌}
use native.Mathlib.Omega.{arith}
use Rattle.std.proofs.Math.Path.{◌≡◌, refl, ap}
use Rattle.std.proofs.Common.{sym, subst, ◌∙◌, inl, inr, ⊎_elim}
use Rattle.std.specs.Prelude.{Bool, ◌⊎◌, length}
use Rattle.std.proofs.Math.Bool.{true, false}
use mathlib.Core.List.Memᴰ
use mathlib.Core.List.{List, [], ◌∷◌, Memᴰ}
use Rattle.std.proofs.Math.ListN.{get_elem?}
use Rattle.program.specs.Tree.{Program}
use Rattle.commands.specs.Noted.{Note}
use Rattle.machine.specs.Machine.{Instance, Machine, Out, Out.next, Out.refused, Out.stuck, command}
use Rattle.machine.proofs.Laws.RepresentsLaws.{Still}
use Rattle.machine.specs.Measure.{total, codes}
use Rattle.machine.proofs.Laws.MeasureLaws.{command_shortens}
use Rattle.run.specs.Holders.{due}
use Rattle.run.proofs.Laws.TurnLaws.{holders_still, due_none}
use Rattle.sound.specs.Firm.{Firm}
use Rattle.sound.specs.Invariant.{Good}
use Rattle.sound.proofs.Laws.Advance.{Kept}
use Rattle.sound.proofs.Laws.CommandKept.{Refused}
use Rattle.sound.proofs.Laws.NeverStuckLaws.{taken_kept}
use Rattle.orders.specs.Deeds.{Deed, Deed.reads, Deed.writes, Act, Clash}
use Rattle.orders.specs.Following.{deed_at, deeds_of, onto}
use Rattle.orders.specs.Marks.{Mark, Mark.untouched, Mark.read_by, Mark.read_by_two, Mark.written_by, Marks, Noted, Noted.noted, Noted.met, note}
use Rattle.orders.specs.ZeroTurns.{next_label, Zeros, Zeros.no_turn, Zeros.a_turn, Answer, Answer.apart, Answer.together, Answer.stops}
use Rattle.orders.specs.ZeroTurns.{Answer.unfinished, next_deed, turned, unless_due, follow}
use Rattle.orders.proofs.Laws.MarkLaws.{by, On, Past, also, Says, Tell, note_tells, note_meets}

-- Pasts -------------------------------------------------------------------------------------------

-- what has been done before, or is among these
abbrev pub within : Past → List (Act Deed) → Past
within T ds x = (T x) ⊎ (Memᴰ x ds)

-- pasts with the same acts
module _ (T U : Past) (to : (x : Act Deed) → T x → U x) (back : (x : Act Deed) → U x → T x) where
  says_same : (q v : ℕ) (k : Mark) → Says T q v k → Says U q v k
  says_same q v untouched s = λ x u o. s x (back x u) o
  says_same q v (read_by a) s = (λ x u o. s.0 x (back x u) o, to (by a (reads q v)) s.1)
  says_same q v (read_by_two a b) s = (λ x u o. s.0 x (back x u) o, to (by a (reads q v)) s.1, to (by b (reads q v)) s.2, s.3)
  says_same q v (written_by a) s = (λ x u o. s.0 x (back x u) o, to (by a (writes q v)) s.1)

  tell_same : (ms : Marks) → Tell T ms → Tell U ms
  tell_same ms h q v = says_same q v (ms q v) (h q v)

pub none_more : (T : Past) (ms : Marks) → Tell T ms → Tell (within T []) ms
none_more T ms h = tell_same T (within T []) (λ x t. inl t) (λ x u. ⊎_elim (λ t. t) (λ n. absurd (Memᴰ.not-nil n)) u) ms h

-- one act, and then others
sooner : (T : Past) (y : Act Deed) (ds : List (Act Deed)) (x : Act Deed) → within (also T y) ds x → within T (y ∷ ds) x
sooner T y ds x (inl (inl t)) = inl t
sooner T y ds x (inl (inr e)) = inr (Memᴰ.head e)
sooner T y ds x (inr u) = inr (Memᴰ.tail u)

later : (T : Past) (y : Act Deed) (ds : List (Act Deed)) (x : Act Deed) → within T (y ∷ ds) x → within (also T y) ds x
later T y ds x (inl t) = inl (inl t)
later T y ds x (inr u) = ⊎_elim (λ e. inl (inr e)) (λ w. inr w) (Memᴰ.cases_cons u)

-- What an answer says -------------------------------------------------------------------------------

pub data Comes (p : Program) (T : Past) (t : ℕ) (m : Machine) : Answer → Type 0 where
  comes_apart : {n : ℕ} {ls : List ℕ} {z : Machine} → Zeros p m ls z → due z ≡ true → n ≡ t + length ls → (ns : Marks)
      → Tell (within T (deeds_of p m ls)) ns → Comes p T t m (apart n)
  comes_together : {n l a q v : ℕ} {ls : List ℕ} {z : Machine} {e : Deed} → Zeros p m ls z → due z ≡ false → n ≡ t + length ls → l ≡ next_label z
      → within T (deeds_of p m ls) (by a e) → On q v e → On q v (next_deed p z) → Clash (next_deed p z) e → (l ≡ a → ⊥)
      → Comes p T t m (together n l a q v)
  comes_stops : {n c : ℕ} {ls : List ℕ} {z : Machine} → Zeros p m ls z → due z ≡ false → n ≡ t + length ls
      → command p (next_label z) z ≡ refused c → Comes p T t m (stops c n)
  comes_unfinished : Comes p T t m unfinished

module _ (p : Program) where
  pub deeds_next : (l : ℕ) (ls : List ℕ) (m : Machine) {m' : Machine} → command p l m ≡ next m'
      → deeds_of p m (l ∷ ls) ≡ by l (deed_at p (get_elem? m.instances l)) ∷ deeds_of p m' ls
  unfolding deeds_of onto
  deeds_next l ls m e =
      ap {B = List (Act Deed)} (λ (o : Out). by l (deed_at p (get_elem? m.instances l)) ∷ onto (λ z. deeds_of p z ls) o) e

  module _ (T : Past) (t : ℕ) (m : Machine) where
    -- one turn earlier
    earlier : {m' : Machine} → due m ≡ false → command p (next_label m) m ≡ next m' → (A : Answer)
        → Comes p (also T (by (next_label m) (next_deed p m))) (suc t) m' A → Comes p T t m A
    earlier {m'} h c A (comes_apart {n = c'} {ls = ls} z d n ns s) =
        let y = by (next_label m) (next_deed p m) in
        let w = tell_same (within (also T y) (deeds_of p m' ls)) (within T (y ∷ deeds_of p m' ls))
        (λ x u. sooner T y (deeds_of p m' ls) x u) (λ x u. later T y (deeds_of p m' ls) x u) ns s in
        comes_apart {n = c'} {ls = next_label m ∷ ls} (a_turn h c z) d (omega (arith, n)) ns
        (subst (λ ds. Tell (within T ds) ns) (sym (deeds_next (next_label m) ls m c)) w)
    earlier {m'} h c A (comes_together {n = c'} {a = a} {ls = ls} {e = e} z d n l u o r k f) =
        let y = by (next_label m) (next_deed p m) in
        comes_together {n = c'} {ls = next_label m ∷ ls} (a_turn h c z) d (omega (arith, n)) l
        (subst (λ ds. within T ds (by a e)) (sym (deeds_next (next_label m) ls m c)) (sooner T y (deeds_of p m' ls) (by a e) u)) o r k f
    earlier h c A (comes_stops {n = c'} {ls = ls} z d n e) = comes_stops {n = c'} {ls = next_label m ∷ ls} (a_turn h c z) d (omega (arith, n)) e
    earlier h c A comes_unfinished = comes_unfinished

    -- a turn, and on by f
    comes_turned : (ms : Marks) → Tell T ms → (f : Marks → Machine → Answer) → due m ≡ false
        → ((ns : Marks) (m' : Machine) → Tell (also T (by (next_label m) (next_deed p m))) ns
        → Comes p (also T (by (next_label m) (next_deed p m))) (suc t) m' (f ns m'))
        → (o : Noted) → note ms (next_label m) (next_deed p m) ≡ o → (r : Out) → command p (next_label m) m ≡ r
        → Comes p T t m (turned f t (next_label m) o r)
    unfolding turned
    comes_turned ms s f h on (met a q v) e r c =
        let (d, u, o, o', k, n) = note_meets T ms s (next_label m) (next_deed p m) e in
        comes_together {n = t} {ls = []} no_turn h (omega arith) refl (inl u) o o' k n
    comes_turned ms s f h on (noted ns) e (next m') c =
        earlier h c (f ns m') (on ns m' (note_tells T ms s (next_label m) (next_deed p m) ns e))
    comes_turned ms s f h on (noted ns) e (refused n) c = comes_stops {n = t} {ls = []} no_turn h (omega arith) c
    comes_turned ms s f h on (noted ns) e stuck c = comes_unfinished

    -- nobody holds commands
    comes_idle : (ms : Marks) → Tell T ms → due m ≡ true → Comes p T t m (apart t)
    unfolding deeds_of
    comes_idle ms s h = comes_apart {n = t} {ls = []} no_turn h (omega arith) ms (none_more T ms s)

  pub follow_comes : (k : ℕ) (T : Past) (t : ℕ) (ms : Marks) (m : Machine) → Tell T ms → Comes p T t m (follow p k t ms m)
  unfolding follow unless_due
  follow_comes zero T t ms m s = go (due m) refl
    where
      go : (b : Bool) → due m ≡ b → Comes p T t m (unless_due b t unfinished)
      go true h = comes_idle T t m ms s h
      go false h = comes_unfinished
  follow_comes (suc k) T t ms m s =
      go (λ ns z. follow p k (suc t) ns z) (λ ns m' r. follow_comes k (also T (by (next_label m) (next_deed p m))) (suc t) ns m' r) (due m) refl
    where
      go : (f : Marks → Machine → Answer)
          → ((ns : Marks) (m' : Machine) → Tell (also T (by (next_label m) (next_deed p m))) ns
          → Comes p (also T (by (next_label m) (next_deed p m))) (suc t) m' (f ns m'))
          → (b : Bool) → due m ≡ b
          → Comes p T t m (unless_due b t (turned f t (next_label m) (note ms (next_label m) (next_deed p m)) (command p (next_label m) m)))
      go f on true h = comes_idle T t m ms s h
      go f on false h = comes_turned T t m ms s f h on (note ms (next_label m) (next_deed p m)) refl (command p (next_label m) m) refl

  -- Completeness --------------------------------------------------------------------------------------

  -- no two deeds of different instances clash
  abbrev pub NoClash : Past → Type 0
  NoClash T = (x y : Act Deed) → T x → T y → Clash x.deed y.deed → x.actor ≡ y.actor

  -- nobody holds commands
  pub follow_idle : (k t : ℕ) (ms : Marks) (m : Machine) → due m ≡ true → follow p k t ms m ≡ apart t
  unfolding follow unless_due
  follow_idle zero t ms m h = ap (λ b. unless_due b t unfinished) h
  follow_idle (suc k) t ms m h =
      ap
      (λ b. unless_due b t
      (turned (λ ns z. follow p k (suc t) ns z) t (next_label m) (note ms (next_label m) (next_deed p m)) (command p (next_label m) m)))
      h

  -- or somebody does: by what is noted of the next command, and what it comes to
  module _ (k t : ℕ) (ms : Marks) (m : Machine) (h : due m ≡ false) where
    follow_due : {o : Noted} {r : Out} → note ms (next_label m) (next_deed p m) ≡ o → command p (next_label m) m ≡ r
        → follow p (suc k) t ms m ≡ turned (λ ns z. follow p k (suc t) ns z) t (next_label m) o r
    unfolding follow unless_due
    follow_due {o = o} e c =
        let f : Marks → Machine → Answer = λ ns z. follow p k (suc t) ns z in
        ap (λ b. unless_due b t (turned f t (next_label m) (note ms (next_label m) (next_deed p m)) (command p (next_label m) m))) h
        ∙ ap (λ o. turned f t (next_label m) o (command p (next_label m) m)) e ∙ ap (turned f t (next_label m) o) c

    pub follow_stops : {n : ℕ} {ns : Marks} → note ms (next_label m) (next_deed p m) ≡ noted ns → command p (next_label m) m ≡ refused n
        → follow p (suc k) t ms m ≡ stops n t
    unfolding turned
    follow_stops e c = follow_due e c

    pub follow_meets : {a q v : ℕ} → note ms (next_label m) (next_deed p m) ≡ met a q v → follow p (suc k) t ms m ≡ together t (next_label m) a q v
    unfolding turned
    follow_meets e = follow_due e refl

  pub follow_turn : (k t : ℕ) (ms : Marks) (m : Machine) {m' : Machine} {ns : Marks} → due m ≡ false → note ms (next_label m) (next_deed p m) ≡ noted ns
      → command p (next_label m) m ≡ next m' → follow p (suc k) t ms m ≡ follow p k (suc t) ns m'
  unfolding turned
  follow_turn k t ms m h e c = follow_due k t ms m h e c

  -- an order that completes the step and touches apart is answered so
  pub follow_complete : (k : ℕ) (T : Past) (t : ℕ) (ms : Marks) {m z : Machine} {ls : List ℕ} → Tell T ms → Zeros p m ls z → due z ≡ true → length ls ≤ k
      → NoClash (within T (deeds_of p m ls)) → follow p k t ms m ≡ apart (t + length ls)
  follow_complete k T t ms {m} s no_turn h b n = follow_idle k t ms m h ∙ ap apart (omega arith)
  follow_complete zero T t ms s (a_turn d c z) h b n = absurd (omega (arith, b))
  follow_complete (suc k) T t ms {m} s (a_turn {m' = m'} {ls = ls} d c z) h b n =
      go
      (λ ns e.
      follow_complete k (also T y) (suc t) ns (note_tells T ms s (next_label m) (next_deed p m) ns e) z h (omega (arith, b))
      (λ x w i j. clear x w (sooner T y (deeds_of p m' ls) x i) (sooner T y (deeds_of p m' ls) w j)))
      (note ms (next_label m) (next_deed p m)) refl
    where
      y : Act Deed
      y = by (next_label m) (next_deed p m)

      clear : NoClash (within T (y ∷ deeds_of p m' ls))
      clear = subst (λ ds. NoClash (within T ds)) (deeds_next (next_label m) ls m c) n

      go : ((ns : Marks) → note ms (next_label m) (next_deed p m) ≡ noted ns → follow p k (suc t) ns m' ≡ apart (suc t + length ls))
          → (o : Noted) → note ms (next_label m) (next_deed p m) ≡ o → follow p (suc k) t ms m ≡ apart (t + suc (length ls))
      go on (met a q v) e =
          let (e', u, o, o', cl, ne) = note_meets T ms s (next_label m) (next_deed p m) e in
          absurd (ne (clear y (by a e') (inr (Memᴰ.head refl)) (inl u) cl))
      go on (noted ns) e = follow_turn k t ms m d e c ∙ on ns e ∙ ap apart (omega arith)

-- The end ---------------------------------------------------------------------------------------------

-- an order of zero bytes has no more turns than there are commands
pub zeros_long : {p : Program} {m z : Machine} {ls : List ℕ} → Zeros p m ls z → length ls ≤ codes m.instances
zeros_long no_turn = omega arith
zeros_long {p} {m} (a_turn h c t) = let i = zeros_long t in omega (arith, i, command_shortens p (next_label m) m c)

no_codes : (c : List Note) → length c ≡ 0 → c ≡ []
no_codes [] e = refl
no_codes (n ∷ c) e = absurd (omega (arith, e))

codes_none : (is : List Instance) → codes is ≡ 0 → Still is
unfolding codes total
codes_none [] e = tt
codes_none (i ∷ is) e = (no_codes i.code (omega (arith, e)), codes_none is (omega (arith, e)))

-- whoever holds commands has some
pub busy_codes : (m : Machine) → due m ≡ false → 0 < codes m.instances
busy_codes m d = go (codes m.instances) refl
  where
    go : (k : ℕ) → codes m.instances ≡ k → 0 < k
    go zero e =
        let f = (due_none m).1 ((holders_still m).1 (codes_none m.instances e)) in
        let z : false ≡ true = sym d ∙ f in let y : ◌≡◌ {A = ℕ} 0 1 = cc in absurd (omega arith)
    go (suc k) e = omega arith

apart_unfinished {ℓ} : {X : Type ℓ} {n : ℕ} → apart n ≡ unfinished → X
apart_unfinished e = let z : ◌≡◌ {A = ℕ} 0 1 = cc in absurd (omega arith)

module _ {p : Program} (firm : Firm p) where
  turned_ends : (f : Marks → Machine → Answer) (t l : ℕ) (o : Noted) (r : Out) → Kept p Refused r
      → ((ns : Marks) (m' : Machine) → r ≡ next m' → f ns m' ≡ unfinished → ⊥) → turned f t l o r ≡ unfinished → ⊥
  unfolding turned
  turned_ends f t l (met a q v) r k h e = let z : ◌≡◌ {A = ℕ} 0 1 = cc in omega arith
  turned_ends f t l (noted ns) (next m') k h e = h ns m' refl e
  turned_ends f t l (noted ns) (refused n) k h e = let z : ◌≡◌ {A = ℕ} 0 1 = cc in omega arith
  turned_ends f t l (noted ns) stuck k h e = k

  -- from a machine with the invariant, for as many turns as there are commands
  pub follow_ends : (k t : ℕ) (ms : Marks) (m : Machine) → Good p m → codes m.instances ≤ k → follow p k t ms m ≡ unfinished → ⊥
  unfolding follow unless_due
  follow_ends zero t ms m g h e =
      apart_unfinished
      (sym (ap (λ b. unless_due b t unfinished) ((due_none m).1 ((holders_still m).1 (codes_none m.instances (omega (arith, h)))))) ∙ e)
  follow_ends (suc k) t ms m g h e =
      go (λ ns z. follow p k (suc t) ns z)
      (λ ns m' c kept e. follow_ends k (suc t) ns m' (subst (Kept p Refused) c kept) (omega (arith, h, command_shortens p (next_label m) m c)) e)
      (due m) refl e
    where
      go : (f : Marks → Machine → Answer)
          → ((ns : Marks) (m' : Machine) → command p (next_label m) m ≡ next m' → Kept p Refused (command p (next_label m) m) → f ns m' ≡ unfinished → ⊥)
          → (b : Bool) → due m ≡ b
          → unless_due b t (turned f t (next_label m) (note ms (next_label m) (next_deed p m)) (command p (next_label m) m)) ≡ unfinished → ⊥
      go f on true d e = apart_unfinished e
      go f on false d e =
          let (i, a, kept) = taken_kept firm 0 g d in
          turned_ends f t (next_label m) (note ms (next_label m) (next_deed p m)) (command p (next_label m) m) kept (λ ns m' c x. on ns m' c kept x) e
