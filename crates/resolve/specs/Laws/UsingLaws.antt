-- The pass over uses and the pass with its trees forgotten agree: what each change does to both.
use Rattle.std.specs.Prelude.{ℕ, suc, ◌+◌, ◌-◌, ◌≤◌, ◌≡◌, Bool, drop}
use Rattle.std.proofs.Common.{arith, sym, ◌∙◌}
use Rattle.std.proofs.Math.Path.{refl, ap, subst}
use Rattle.std.proofs.Math.Bool.{true, false}
use mathlib.Core.List.{List, [], ◌∷◌, ◌++◌, map}
use Rattle.std.proofs.Math.Option.{Option, none, some}
use Rattle.std.proofs.Math.ListN.{length}
use Rattle.std.proofs.lemmas.List.{length-map}
use Rattle.types.proofs.Laws.ListLaws.{cons_eq}
use Rattle.types.specs.Limits.{first_local}
use Rattle.syntax.specs.Syntax.{Id, TypeName, Par, Struct}
use Rattle.meaning.specs.Scope.{par_id, par_type, struct_id, Local, Local.declared, local_id, local_number, local_type}
use Rattle.meaning.specs.Meant.{provided}
use Rattle.resolve.specs.Checks.{byte_of}
use Rattle.resolve.specs.Passing.{Pass, moves, leaves, opens, lives}
use Rattle.resolve.specs.Using.{book_of, Use, move, leave, due, live, own_row, last_of, use_opens}

-- Open ifs ---------------------------------------------------------------------------------------

-- the locals l stand at the end of others
pub data Behind (l : List Local) : List Local → Type 0 where
  at_it : Behind l l
  past : {a : Local} {m : List Local} → Behind l m → Behind l (a ∷ m)

-- the locals alive before each open if, each at the end of those behind it; and how many they are
pub data Opened : List Local → List (List Local) → List ℕ → Type 0 where
  none_open : {a : List Local} → Opened a [] []
  one_open : {a l : List Local} {b : List (List Local)} {h : List ℕ} → Behind l a → Opened l b h → Opened a (l ∷ b) (length l ∷ h)

pub behind_more : {l a : List Local} (f : List Local) → Behind l a → Behind l (f ++ a)
behind_more [] b = b
behind_more (x ∷ f) b = past (behind_more f b)

pub opened_more : {a : List Local} {b : List (List Local)} {h : List ℕ} (f : List Local) → Opened a b h → Opened (f ++ a) b h
opened_more f none_open = none_open
opened_more f (one_open k o) = one_open (behind_more f k) o

behind_long : {l a : List Local} → Behind l a → length l ≤ length a
behind_long at_it = omega arith
behind_long (past b) = let h = behind_long b in omega (arith, h)

pub last_behind : {B : Type 0} (f : Local → B) {l a : List Local} → Behind l a → last_of (length l) (map f a) ≡ map f l
unfolding last_of
last_behind f {l} at_it =
    let k = length-map l f in
    let h : length (map f l) - length l ≡ 0 = omega (arith, k) in
    ap (λ n. drop n (map f l)) h
last_behind f {l} (past {a = a} {m = m} b) =
    let k = behind_long b in
    let j = length-map m f in
    let h : length (map f (a ∷ m)) - length l ≡ suc (length (map f m) - length l) = omega (arith, k, j) in
    ap (λ n. drop n (map f (a ∷ m))) h ∙ last_behind f b

-- the part behind what is not alive yet
pub alive_part : {B : Type 0} (f : Local → B) (r a : List Local) (l : List B) (n : ℕ) → map f (r ++ a) ≡ l → length r ≡ n → map f a ≡ drop n l
alive_part f r a l n e h = sym (go r) ∙ ap (λ k. drop k (map f (r ++ a))) h ∙ ap (drop n) e
  where
    go : (r : List Local) → drop (length r) (map f (r ++ a)) ≡ map f a
    go [] = refl
    go (x ∷ r) = go r

-- Agrees ----------------------------------------------------------------------------------------------

pub record Agrees (ds : List Struct) (names : List Id) (p : Pass) (u : Use) : Type 0 where
  pub left : p.left ≡ drop u.begun ds
  pub own : map par_id p.own ≡ own_row (book_of ds names).rows u.begun
  pub types : map (λ q. byte_of (map struct_id ds) (par_type q)) p.own ≡ own_row (book_of ds names).types u.begun
  pub type : byte_of (map struct_id ds) p.type ≡ u.type
  pub dues : p.dues ≡ u.dues
  pub out : p.out ≡ u.out
  -- the locals
  pub met : p.met ≡ u.met
  pub living : map local_id (p.fresh ++ p.alive) ≡ u.living
  pub numbers : map local_number (p.fresh ++ p.alive) ≡ u.numbers
  pub bytes : map (λ l. byte_of (map struct_id ds) (local_type l)) (p.fresh ++ p.alive) ≡ u.bytes
  pub fresh : length p.fresh ≡ u.fresh
  pub bodies : Opened p.alive p.bodies u.heights

-- both find nothing, or both go on and agree
pub data Both (ds : List Struct) (names : List Id) : Option Pass → Option Use → Type 0 where
  neither : Both ds names none none
  both : {p : Pass} {u : Use} → Agrees ds names p u → Both ds names (some p) (some u)

module _ (ds : List Struct) (names : List Id) where
  abbrev byte : TypeName → ℕ
  byte t = byte_of (map struct_id ds) t

  -- by a test
  pub both_if : {o : Option Pass} {v : Option Use} (s t : Bool) → s ≡ t → Both ds names o v → Both ds names (provided s o) (provided t v)
  unfolding provided
  both_if {o} {v} s t e h = subst (λ b. Both ds names (provided s o) (provided b v)) e (go s)
    where
      go : (b : Bool) → Both ds names (provided b o) (provided b v)
      go true = h
      go false = neither

  module _ {p : Pass} {u : Use} (s : Agrees ds names p u) where
    pub names_alive : map local_id p.alive ≡ drop u.fresh u.living
    names_alive = alive_part local_id p.fresh p.alive u.living u.fresh s.living s.fresh

    pub numbers_alive : map local_number p.alive ≡ drop u.fresh u.numbers
    numbers_alive = alive_part local_number p.fresh p.alive u.numbers u.fresh s.numbers s.fresh

    pub bytes_alive : map (λ l. byte (local_type l)) p.alive ≡ drop u.fresh u.bytes
    bytes_alive = alive_part (λ l. byte (local_type l)) p.fresh p.alive u.bytes u.fresh s.bytes s.fresh

    -- all but the locals changes, on both sides
    pub agree_moves : (l : List Struct) (ps : List Par) (t : TypeName) (n : ℕ) {c : ℕ} {d e o q : List ℕ} → l ≡ drop n ds
        → map par_id ps ≡ own_row (book_of ds names).rows n → map (λ r. byte (par_type r)) ps ≡ own_row (book_of ds names).types n
        → byte t ≡ c → d ≡ e → o ≡ q → Agrees ds names (moves p l ps t d o) (move u n c e q)
    agree_moves l ps t n left own types type dues out =
        record {
          left = left;
          own = own;
          types = types;
          type = type;
          dues = dues;
          out = out;
          met = s.met;
          living = s.living;
          numbers = s.numbers;
          bytes = s.bytes;
          fresh = s.fresh;
          bodies = s.bodies;
        }

    -- a number is left
    pub agree_leave : (t : TypeName) (n c m : ℕ) → byte t ≡ c → n ≡ m → Agrees ds names (leaves p t n) (leave u c m)
    unfolding leaves leave
    agree_leave t n c m e f = agree_moves p.left p.own t u.begun s.left s.own s.types e s.dues (cons_eq f s.out)

    -- argument lists change
    pub agree_due : (k l : List ℕ) → k ≡ l → Agrees ds names (opens p k) (due u l)
    unfolding opens due
    agree_due k l e = agree_moves p.left p.own p.type u.begun s.left s.own s.types s.type e s.out

    -- the locals change: those not alive yet, those alive before each open if
    pub agree_lives : (r : List Local) {l : List Local} {b : List (List Local)} {m m' k : List Id} {ns bs h : List ℕ} {n : ℕ} → m ≡ m'
        → map local_id (r ++ l) ≡ k → map local_number (r ++ l) ≡ ns → map (λ a. byte (local_type a)) (r ++ l) ≡ bs → length r ≡ n → Opened l b h
        → Agrees ds names (lives p l r m b) (live u k ns bs n m' h)
    unfolding lives live
    agree_lives r met living numbers bytes fresh bodies =
        record {
          left = s.left;
          own = s.own;
          types = s.types;
          type = s.type;
          dues = s.dues;
          out = s.out;
          met = met;
          living = living;
          numbers = numbers;
          bytes = bytes;
          fresh = fresh;
          bodies = bodies;
        }

    -- the locals of a step end
    pub agree_none : Agrees ds names (lives p [] [] [] []) (live u [] [] [] 0 [] [])
    agree_none = agree_lives [] refl refl refl refl refl none_open

    -- a local comes alive
    pub agree_alive : Agrees ds names (lives p (p.fresh ++ p.alive) [] p.met p.bodies)
        (live u u.living u.numbers u.bytes 0 u.met u.heights)
    agree_alive = agree_lives [] s.met s.living s.numbers s.bytes refl (opened_more p.fresh s.bodies)

    -- an if is opened
    pub agree_opened : Agrees ds names (lives p p.alive [] p.met (p.alive ∷ p.bodies)) (use_opens u)
    unfolding use_opens
    agree_opened =
        agree_lives [] s.met names_alive numbers_alive bytes_alive refl
        (subst (λ n. Opened p.alive (p.alive ∷ p.bodies) (n ∷ u.heights)) (sym (length-map p.alive local_id) ∙ ap length names_alive)
        (one_open at_it s.bodies))

    -- an if is closed: the locals l were alive before it
    pub agree_closed : {b : List (List Local)} {h : List ℕ} (l : List Local) → Behind l p.alive → Opened l b h
        → Agrees ds names (lives p l [] p.met b)
        (live u (last_of (length l) u.living) (last_of (length l) u.numbers) (last_of (length l) u.bytes) 0 u.met h)
    agree_closed l k o =
        agree_lives [] s.met (sym (last_behind local_id (behind_more p.fresh k)) ∙ ap (last_of (length l)) s.living)
        (sym (last_behind local_number (behind_more p.fresh k)) ∙ ap (last_of (length l)) s.numbers)
        (sym (last_behind (λ m. byte (local_type m)) (behind_more p.fresh k)) ∙ ap (last_of (length l)) s.bytes) refl o

  -- a local is declared
  module _ {p : Pass} {u : Use} (s : Agrees ds names p u) where
    pub agree_new : (x : Id)
        → Agrees ds names
        (lives (leaves p p.type (first_local + length p.met)) p.alive (declared x (length p.met) p.type ∷ []) (x ∷ p.met) p.bodies)
        (live (leave u u.type (first_local + length u.met)) (x ∷ drop u.fresh u.living) (length u.met ∷ drop u.fresh u.numbers)
        (u.type ∷ drop u.fresh u.bytes) 1 (x ∷ u.met) u.heights)
    unfolding local_id local_number local_type
    agree_new x =
        agree_lives (agree_leave s p.type _ u.type _ s.type (ap (λ m. first_local + length m) s.met))
        (declared x (length p.met) p.type ∷ []) (ap (λ m. x ∷ m) s.met) (ap (λ m. x ∷ m) (names_alive s))
        (cons_eq (ap length s.met) (numbers_alive s)) (cons_eq s.type (bytes_alive s)) refl s.bodies
