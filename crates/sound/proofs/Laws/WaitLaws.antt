-- Under zero bytes the first holder acts each time and goes last, so a holder acts at its own place among them (02, 'Turns that go round').
use Rattle.std.specs.Prelude.{ℕ, zero, suc, ◌+◌, ◌<◌, ◌≤◌, ◌≡◌, refl, Bool, false, ◌⊎◌, List, [], ◌∷◌, ◌++◌, length, get_or, set, take, replicate}
use Rattle.std.proofs.Common.{arith, ap, sym, ◌∙◌, subst, inl, inr, append-nil, length-set, length-append, take-take}
use Rattle.std.proofs.Math.Decide.{ℕ_discrete}
use Rattle.std.proofs.Math.Option.{some}
use Rattle.std.proofs.Math.ListN.{get_elem?, get_or-append}
use Rattle.program.specs.Tree.{Program}
use Rattle.machine.specs.Machine.{Instance, Machine, Out, Out.next, Out.refused, Out.stuck, command}
use Rattle.machine.proofs.Laws.FromLaws.{command_from}
use Rattle.machine.specs.Stops.{full, exceeded}
use Rattle.run.specs.Turns.{round_from, chosen}
use Rattle.run.specs.Holders.{flag, flags, holders, due}
use Rattle.run.specs.Steps.{Steps.here, Steps.reads}
use Rattle.run.specs.Visits.{Acts, Acts.takes}
use Rattle.run.proofs.Laws.Settles.{Rests.fails}
use Rattle.run.proofs.Laws.RoundLaws.{kept, round_after, round_idle}
use Rattle.run.proofs.Laws.RunAgrees.{rests_halts}
use Rattle.run.proofs.Laws.TurnLaws.{chosen_place, holder_chosen, some_due}
use Rattle.sound.specs.Firm.{Firm}
use Rattle.sound.specs.Invariant.{Good}
use Rattle.sound.specs.Conditions.{Condition}
use Rattle.sound.specs.Waiting.{Passes, ActsWithin, StopsBefore}
use Rattle.sound.proofs.Laws.Advance.{Kept}
use Rattle.sound.proofs.Laws.CommandKept.{Refused}
use Rattle.sound.proofs.Laws.FlagLaws.{Idle, flags_behind}
use Rattle.sound.proofs.Laws.GoodStands.{good_stands}
use Rattle.sound.proofs.Laws.NeverStuckLaws.{taken_kept, acts_good}

-- After a turn ------------------------------------------------------------------------

idle_more : (s : ℕ) (fs more : List Bool) → Idle more → s ≤ length fs → round_from s (fs ++ more) ≡ round_from s fs
idle_more s fs more (inl e) h = rw (e, append-nil fs)
idle_more s fs more (inr e) h = rw e (round_idle s fs h)

-- after a command of the first holder the others come first, in their order, and it comes last, where it has commands left
pub holders_turned : (p : Program) (m : Machine) {m' : Machine} {h : ℕ} {hs : List ℕ} → holders m ≡ h ∷ hs → command p h m ≡ next m'
    → (b : Bool) × (holders m' ≡ hs ++ kept b h)
unfolding holders
holders_turned p m {m'} {h} {hs} e c =
    let f = flags_behind p h m c in
    let fs = flags m.instances in
    let b = flag f.actor in
    let (within, turned) = round_after m.from fs b e in
    let long : suc h ≤ length (set fs h b) = rw (length-set fs h b) within in (
      b,
      ap (λ (n : ℕ). round_from n (flags m'.instances)) (command_from p h m c) ∙ ap (round_from (suc h)) f.others
          ∙ idle_more (suc h) (set fs h b) f.more f.idle long ∙ turned,
    )

take_replicate : (n k : ℕ) → n ≤ k → take {A = ℕ} n (replicate k 0) ≡ replicate n 0
take_replicate zero k h = refl
take_replicate (suc n) zero h = absurd (omega arith)
take_replicate (suc n) (suc k) h = ap (λ (r : List ℕ). 0 ∷ r) (take_replicate n k (omega arith))

-- The wait -----------------------------------------------------------------------------

module _ {p : Program} (firm : Firm p) (l : ℕ) where
  -- l acts within n turns, or 34 or 35 stops the run before
  abbrev Waits : ℕ → Machine → List ℕ → Type 0
  Waits n m es = (ActsWithin p l n m es) ⊎ (StopsBefore p l n m es)

  -- one turn of another more
  passed : {n e : ℕ} {m m' : Machine} {es : List ℕ} → Passes p l m (some e) m' → Waits n m' es → Waits (suc n) m (e ∷ es)
  passed s (inl a) =
      let h = a.few in
      inl (record {
        turns = suc a.turns;
        few = omega arith;
        place = a.place;
        byte = a.byte;
        left = a.left;
        waited = reads s a.waited;
        own = a.own;
        after = a.after;
        acts = a.acts;
      })
  passed s (inr a) =
      let h = a.few in
      inr (record { turns = suc a.turns; few = omega arith; place = a.place; left = a.left; waited = reads s a.waited; stops = a.stops })

  -- the first holder h, whose command comes to o; whoever waits after it has its place, by `on`
  module _ (n : ℕ) (m : Machine) (es : List ℕ) (good : Good p m) (d : due m ≡ false) (h : ℕ) (is : chosen (holders m) 0 ≡ h)
      (on : (h ≡ l → ⊥) → (m' : Machine) → Acts p m (some 0) m' → command p h m ≡ next m' → Waits n m' es) where
    goes : {m' : Machine} → command p h m ≡ next m' → Acts p m (some 0) m'
    goes q = takes d (ap (λ x. command p x m) is ∙ q)

    turned : (m' : Machine) → command p h m ≡ next m' → Dec (h ≡ l) → Waits (suc n) m (0 ∷ es)
    turned m' q (yes e) =
        inl (record { turns = 0; few = omega arith; place = m; byte = 0; left = es; waited = here; own = is ∙ e; after = m'; acts = goes q })
    turned m' q (no e) = passed (record { acts = goes q; other = λ x a b. e (sym is ∙ own x a b) }) (on e m' (goes q) q)
      where
        own : (x : ℕ) → some 0 ≡ some x → chosen (holders m) x ≡ l → chosen (holders m) 0 ≡ l
        own x a b = let z : 0 ≡ x = cc in ap (chosen (holders m)) z ∙ b

    stopped : {k : ℕ} → command p h m ≡ refused k → Refused k → Waits (suc n) m (0 ∷ es)
    stopped {k} q r =
        let (c, stands) = good_stands good in
        let halts = rests_halts p c stands (fails {n = k} {es = es} d (ap (λ x. command p x m) is ∙ q)) in
        inr (record { turns = 0; few = omega arith; place = m; left = 0 ∷ es; waited = here; stops = go r (c, stands, halts) })
      where
        go : Refused k → Condition m (0 ∷ es) k → Condition m (0 ∷ es) full ⊎ Condition m (0 ∷ es) exceeded
        go (inl e) a = inl (subst (Condition m (0 ∷ es)) e a)
        go (inr e) a = inr (subst (Condition m (0 ∷ es)) e a)

    first_turn : (o : Out) → command p h m ≡ o → Kept p Refused o → Waits (suc n) m (0 ∷ es)
    first_turn (next m') q k = turned m' q (ℕ_discrete h l)
    first_turn (refused j) q k = stopped q k
    first_turn stuck q k = absurd k

  -- a first turn with a byte of zero
  one_turn : (k : ℕ) (m : Machine) (es : List ℕ) → Good p m → 0 < length (holders m)
      → take (suc k) es ≡ replicate (suc k) 0
      → ((h : ℕ) (hs fs : List ℕ) → holders m ≡ h ∷ hs → take k fs ≡ replicate k 0 → (h ≡ l → ⊥)
      → (m' : Machine) → Acts p m (some 0) m' → command p h m ≡ next m' → Waits k m' fs)
      → Waits (suc k) m es
  one_turn k m [] good busy zeros on = let z : ◌≡◌ {A = ℕ} 0 1 = cc in absurd (omega arith)
  one_turn k m (x ∷ es) good busy zeros on = go (holders m) refl
    where
      go : (hs : List ℕ) → holders m ≡ hs → Waits (suc k) m (x ∷ es)
      go [] q = absurd (omega (arith, ap length q))
      go (h ∷ hs) q =
          let d = some_due m q in
          let is : chosen (holders m) 0 ≡ h = chosen_place (holders m) 0 busy ∙ ap (λ (r : List ℕ). get_or r 0 0) q in
          let (i, at, outcome) = taken_kept firm 0 good d in
          let z : 0 ≡ x = cc in
          let rest : take k es ≡ replicate k 0 = cc in
          subst (λ (y : ℕ). Waits (suc k) m (y ∷ es)) z
          (first_turn k m es good d h is (λ other m' a e. on h hs es q rest other m' a e) (command p h m) refl (rw is at outcome))

  -- the holder at place k acts within k + 1 turns
  waits : (k : ℕ) (m : Machine) (es : List ℕ) → Good p m → k < length (holders m) → get_or (holders m) k 0 ≡ l
      → take (suc k) es ≡ replicate (suc k) 0 → Waits (suc k) m es
  waits zero m es good within at zeros =
      one_turn 0 m es good within zeros
      λ h hs fs q rest other m' a e. absurd (other (ap (λ (r : List ℕ). get_or r 0 0) (sym q) ∙ at))
  waits (suc k) m es good within at zeros =
      one_turn (suc k) m es good (omega arith) zeros
      λ h hs fs q rest other m' a e.
      let (b, turned) = holders_turned p m q e in
      let long : length (holders m) ≡ suc (length hs) = ap length q in
      let near : k < length hs = omega arith in
      let whole : length (holders m') ≡ length hs + length (kept b h) = ap length turned ∙ length-append hs (kept b h) in
      waits k m' fs (acts_good firm a good) (omega arith)
      (ap (λ (r : List ℕ). get_or r k 0) turned ∙ get_or-append hs (kept b h) 0 k near ∙ ap (λ (r : List ℕ). get_or r (suc k) 0) (sym q) ∙ at)
      rest

  longer : {n k : ℕ} {m : Machine} {es : List ℕ} → n ≤ k → Waits n m es → Waits k m es
  longer q (inl a) =
      let h = a.few in
      inl (record {
        turns = a.turns;
        few = omega arith;
        place = a.place;
        byte = a.byte;
        left = a.left;
        waited = a.waited;
        own = a.own;
        after = a.after;
        acts = a.acts;
      })
  longer q (inr a) =
      let h = a.few in
      inr (record { turns = a.turns; few = omega arith; place = a.place; left = a.left; waited = a.waited; stops = a.stops })

  -- an instance that holds commands acts within as many turns as there are holders, where that many bytes are zero, or 34 or 35 stops the
  -- run before
  pub holder_waits : (m : Machine) (es : List ℕ) → Good p m → {i : Instance} → get_elem? m.instances l ≡ some i → (i.code ≡ [] → ⊥)
      → take (length (holders m)) es ≡ replicate (length (holders m)) 0
      → Waits (length (holders m)) m es
  holder_waits m es good g held zeros =
      let (k, within, at) = holder_chosen m l g held in
      let fewer : take (suc k) es ≡ replicate (suc k) 0 =
      sym (take-take (suc k) (length (holders m)) es within) ∙ ap (take (suc k)) zeros ∙ take_replicate (suc k) (length (holders m)) within in
      longer within (waits k m es good within (sym (chosen_place (holders m) k within) ∙ at) fewer)
