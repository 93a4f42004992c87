-- Laws of turns (01, 'Table and turns'; 02, 'Turns that go round'): the labels of holders are all of them; a byte picks one of them, and each is
-- picked by some byte; a machine has the holders of the configuration that it stands for.
use Rattle.std.specs.Prelude.{ℕ, zero, suc, ◌+◌, ◌%◌, ◌<◌, ◌≡◌, refl, ◌↔◌, Bool, true, false, List, [], ◌∷◌, map, length, get_or}
use Rattle.std.proofs.Common.{ap, sym, ◌∙◌, arith, mod-lt, mod-eq_of_lt}
use Rattle.std.proofs.Math.Option.{some}
use Rattle.std.proofs.Math.ListN.{get_elem?}
use Rattle.program.specs.Counts.{All}
use Rattle.commands.specs.Commands.{Coms, Coms.nil, Coms.act, Coms.if_then, flatten}
use Rattle.commands.specs.Noted.{Note, erase}
use Rattle.types.specs.Values.{Val}
use Rattle.machine.specs.Published.{Sched, Env, Inst, Inst.inst, State.state, Idle}
use Rattle.machine.specs.Rules.{Done}
use Rattle.machine.specs.Machine.{Instance, Machine}
use Rattle.machine.specs.Represents.{RepresentsAll}
use Rattle.machine.proofs.Laws.RepresentsLaws.{Still}
use Rattle.run.specs.Turns.{labels_from, round_from, chosen, holds_coms, holders_of}
use Rattle.run.specs.Holders.{holds_code, flag, flags, holders, none_of, due}
use Rattle.run.specs.Runs.{Config.config, StandsFor}
use Rattle.run.proofs.Laws.RoundLaws.{round_length, round_place, place_round}

-- Labels ---------------------------------------------------------------------------

-- no label is listed exactly where false stands everywhere
pub labels_none : (l : ℕ) (bs : List Bool) → (labels_from l bs ≡ []) ↔ (All (λ b. b ≡ false) bs)
unfolding labels_from
labels_none l [] = (λ e. tt, λ a. refl)
labels_none l (true ∷ bs) = (λ e. let z : ◌≡◌ {A = ℕ} 0 1 = cc in absurd (omega arith), λ a. let z : true ≡ false = a.0 in cc)
labels_none l (false ∷ bs) = let r = labels_none (suc l) bs in (λ e. (refl, r.0 e), λ a. r.1 a.1)

-- at every label listed stands true
pub labels_at : (l : ℕ) (bs : List Bool) (i : ℕ) → i < length (labels_from l bs)
    → (k : ℕ) × (get_or (labels_from l bs) i 0 ≡ l + k) × (get_elem? bs k ≡ some true)
unfolding labels_from
labels_at l [] i h = absurd (omega arith)
labels_at l (true ∷ bs) zero h = (0, omega arith, refl)
labels_at l (true ∷ bs) (suc i) h = let (k, a, b) = labels_at (suc l) bs i (omega arith) in (suc k, omega arith, b)
labels_at l (false ∷ bs) i h = let (k, a, b) = labels_at (suc l) bs i h in (suc k, omega arith, b)

-- every label at which true stands is listed
pub labels_all : (l : ℕ) (bs : List Bool) (k : ℕ) → get_elem? bs k ≡ some true
    → (i : ℕ) × (i < length (labels_from l bs)) × (get_or (labels_from l bs) i 0 ≡ l + k)
unfolding labels_from
labels_all l [] k g = let z : ◌≡◌ {A = ℕ} 0 1 = cc in absurd (omega arith)
labels_all l (true ∷ bs) zero g = (0, omega arith, omega arith)
labels_all l (true ∷ bs) (suc k) g = let (i, a, b) = labels_all (suc l) bs k g in (suc i, omega arith, omega arith)
labels_all l (false ∷ bs) zero g = let z : ◌≡◌ {A = ℕ} 0 1 = cc in absurd (omega arith)
labels_all l (false ∷ bs) (suc k) g = let (i, a, b) = labels_all (suc l) bs k g in (i, a, omega arith)

-- labels are listed in their order
pub labels_ascend : (l : ℕ) (bs : List Bool) (i : ℕ) → suc i < length (labels_from l bs)
    → get_or (labels_from l bs) i 0 < get_or (labels_from l bs) (suc i) 0
unfolding labels_from
labels_ascend l [] i h = absurd (omega arith)
labels_ascend l (true ∷ bs) zero h = let (k, a, b) = labels_at (suc l) bs 0 (omega arith) in omega arith
labels_ascend l (true ∷ bs) (suc i) h = labels_ascend (suc l) bs i (omega arith)
labels_ascend l (false ∷ bs) i h = labels_ascend (suc l) bs i h

module _ {A B : Type 0} (f : A → B) where
  -- what stands at a place of a mapped list is made from the element there
  pub at_map : (xs : List A) (k : ℕ) {y : B} → get_elem? (map f xs) k ≡ some y → (x : A) × (get_elem? xs k ≡ some x) × (f x ≡ y)
  at_map [] k g = let z : ◌≡◌ {A = ℕ} 0 1 = cc in absurd (omega arith)
  at_map (x ∷ xs) zero g = (x, refl, cc)
  at_map (x ∷ xs) (suc k) g = at_map xs k g

  -- and so the other way
  pub map_at : (xs : List A) (k : ℕ) {x : A} → get_elem? xs k ≡ some x → get_elem? (map f xs) k ≡ some (f x)
  map_at [] k g = let z : ◌≡◌ {A = ℕ} 0 1 = cc in absurd (omega arith)
  map_at (y ∷ xs) zero {x} g = let h : y ≡ x = cc in cc
  map_at (y ∷ xs) (suc k) g = map_at xs k g

-- a list without a length is empty
pub none_listed : (l : List ℕ) → length l ≡ 0 → l ≡ []
none_listed [] e = refl
none_listed (x ∷ l) e = absurd (omega arith)

module _ {A : Type 0} (f : A → Bool) where
  all_map : (C : A → Type 0) → ((x : A) → (f x ≡ false) ↔ (C x)) → (xs : List A) → (All (λ b. b ≡ false) (map f xs)) ↔ (All C xs)
  all_map C h [] = (λ a. tt, λ a. tt)
  all_map C h (x ∷ xs) = let r = all_map C h xs in (λ a. ((h x).0 a.0, r.0 a.1), λ a. ((h x).1 a.0, r.1 a.1))

  none_map : (C : A → Type 0) → ((x : A) → (f x ≡ false) ↔ (C x)) → (n : ℕ) (xs : List A) → (round_from n (map f xs) ≡ []) ↔ (All C xs)
  none_map C h n xs =
      let a = labels_none 0 (map f xs) in
      let b = all_map C h xs in
      let r = round_length n (map f xs) in
      (λ e. b.0 (a.0 (none_listed _ (sym r ∙ ap length e))), λ c. none_listed _ (r ∙ ap length (a.1 (b.1 c))))

-- Holders --------------------------------------------------------------------------

code_none : (c : List Note) → (holds_code c ≡ false) ↔ (c ≡ [])
unfolding holds_code
code_none [] = (λ e. refl, λ e. refl)
code_none (n ∷ c) = (λ e. cc, λ e. cc)

coms_none : (j : Inst) → (holds_coms j ≡ false) ↔ (Idle j)
coms_none (inst k nil χ ξ) = (λ e. refl, λ e. refl)
coms_none (inst k (act m c) χ ξ) = (λ e. cc, λ e. cc)
coms_none (inst k (if_then b c) χ ξ) = (λ e. cc, λ e. cc)

held : (c : List Note) → (c ≡ [] → ⊥) → holds_code c ≡ true
unfolding holds_code
held [] n = absurd (n refl)
held (x ∷ c) n = refl

-- nobody holds commands exactly where every instance is still
pub holders_still : (m : Machine) → (holders m ≡ []) ↔ (Still m.instances)
unfolding holders
holders_still m = none_map flag (λ i. i.code ≡ []) (λ i. code_none i.code) m.from m.instances

none_none : (hs : List ℕ) → (none_of hs ≡ true) ↔ (hs ≡ [])
unfolding none_of
none_none [] = (λ e. refl, λ e. refl)
none_none (h ∷ hs) = (λ e. cc, λ e. cc)

-- and there a move of the schedule is due
pub due_none : (m : Machine) → (due m ≡ true) ↔ (holders m ≡ [])
unfolding due
due_none m = none_none (holders m)

pub due_still : (m : Machine) → due m ≡ true → Still m.instances
due_still m d = (holders_still m).0 ((due_none m).0 d)

some_of : (hs : List ℕ) → none_of hs ≡ false → (l : ℕ) × (ls : List ℕ) × (hs ≡ l ∷ ls)
unfolding none_of
some_of [] e = let y : true ≡ false = cc in let z : ◌≡◌ {A = ℕ} 0 1 = cc in absurd (omega arith)
some_of (h ∷ hs) e = (h, hs, refl)

-- elsewhere someone holds commands
pub due_some : (m : Machine) → due m ≡ false → (h : ℕ) × (hs : List ℕ) × (holders m ≡ h ∷ hs)
unfolding due
due_some m d = some_of (holders m) d

pub some_due : (m : Machine) {h : ℕ} {hs : List ℕ} → holders m ≡ h ∷ hs → due m ≡ false
unfolding due none_of
some_due m g = ap none_of g

-- and so in a published state
pub labels_done : (σ : List Inst) → (labels_from 0 (map holds_coms σ) ≡ []) ↔ (Done σ)
labels_done σ =
    let a = labels_none 0 (map holds_coms σ) in let b = all_map holds_coms Idle coms_none σ in (λ e. b.0 (a.0 e), λ c. a.1 (b.1 c))

pub holders_done : (n : ℕ) (σ : List Inst) → (holders_of n σ ≡ []) ↔ (Done σ)
unfolding holders_of
holders_done n σ = none_map holds_coms Idle coms_none n σ

holds_same : (n : List Note) (k : ℕ) (c : Coms) (χ : List Val) (ξ : Env) → map erase n ≡ flatten c → holds_code n ≡ holds_coms (inst k c χ ξ)
unfolding holds_code flatten
holds_same [] k nil χ ξ e = refl
holds_same [] k (act m c) χ ξ e = cc
holds_same [] k (if_then b c) χ ξ e = cc
holds_same (n ∷ ns) k nil χ ξ e = cc
holds_same (n ∷ ns) k (act m c) χ ξ e = refl
holds_same (n ∷ ns) k (if_then b c) χ ξ e = refl

pub flags_represent : (is : List Instance) (σ : List Inst) → RepresentsAll is σ → flags is ≡ map holds_coms σ
flags_represent [] [] R = refl
flags_represent [] (j ∷ σ) R = absurd R
flags_represent (i ∷ is) [] R = absurd R
flags_represent (i ∷ is) (inst k c χ ξ ∷ σ) R =
    let r = flags_represent is σ R.1 in let h = holds_same i.code k c χ ξ R.0.1 in cc

-- a machine has the holders of the configuration that it stands for, in their order
pub holders_represent : (m : Machine) (n : ℕ) {s : Sched} (σ : List Inst) {b : List Bool} → StandsFor m (config n (state s σ b)) → holders m ≡ holders_of n σ
unfolding holders holders_of
holders_represent m n σ (q, R) =
    ap (λ (x : ℕ). round_from x (flags m.instances)) q ∙ ap (round_from n) (flags_represent m.instances σ R.1)

-- as many hold commands as are listed in label order
pub holders_length : (m : Machine) → length (holders m) ≡ length (labels_from 0 (flags m.instances))
unfolding holders
holders_length m = round_length m.from (flags m.instances)

-- The chosen one -------------------------------------------------------------------

-- a byte below the number of holders picks the one at its place, from 0
pub chosen_place : (hs : List ℕ) (e : ℕ) → e < length hs → chosen hs e ≡ get_or hs e 0
unfolding chosen
chosen_place hs e h = ap (λ i. get_or hs i 0) (mod-eq_of_lt h)

-- every byte picks one of the holders
pub chosen_among : (hs : List ℕ) (e : ℕ) → 0 < length hs → (i : ℕ) × (i < length hs) × (chosen hs e ≡ get_or hs i 0)
unfolding chosen
chosen_among hs e b = (e % length hs, mod-lt e b, refl)

-- a byte picks an existing instance that holds commands, where no move is due
pub chosen_holds : (m : Machine) (e : ℕ) → due m ≡ false
    → (i : Instance) × (get_elem? m.instances (chosen (holders m) e) ≡ some i) × (i.code ≡ [] → ⊥)
unfolding holders
chosen_holds m e g =
    let (h, hs, s) = due_some m g in
    let (j, c, d) = chosen_among (holders m) e (rw s (omega arith)) in
    let (x, o, y) = round_place m.from (flags m.instances) j c in
    let (k, a, b) = labels_at 0 (flags m.instances) x o in
    let (i, u, v) = at_map flag m.instances k b in
    let w : chosen (holders m) e ≡ k = d ∙ y ∙ a ∙ omega arith in
    (i, rw w u, λ n. let z = (code_none i.code).1 n in let y : true ≡ false = cc in let x : ◌≡◌ {A = ℕ} 0 1 = cc in omega arith)

-- each instance that holds commands is picked by some byte, of those below the number of holders
pub holder_chosen : (m : Machine) (l : ℕ) {i : Instance} → get_elem? m.instances l ≡ some i → (i.code ≡ [] → ⊥)
    → (e : ℕ) × (e < length (holders m)) × (chosen (holders m) e ≡ l)
unfolding holders
holder_chosen m l {i} g n =
    let (j, a, b) = labels_all 0 (flags m.instances) l (map_at flag m.instances l g ∙ ap some (held i.code n)) in
    let (e, c, d) = place_round m.from (flags m.instances) j a in
    (e, c, chosen_place (holders m) e c ∙ sym d ∙ b ∙ omega arith)
