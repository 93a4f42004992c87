-- The roles of a derivation stand in its text, where the loop over kinds leaves them.
use Rattle.std.specs.Prelude.{ℕ, zero, suc, ◌≡◌, refl, Bool, true, false, ◌&&◌, List, [], ◌∷◌, map, get_or, take, eqb}
use Rattle.std.proofs.Common.{arith, sym, ap, ◌∙◌, ne_eqb}
use Rattle.std.proofs.lemmas.Bool.{false≢true}
use Rattle.std.proofs.Math.Option.{Option, none, some}
use Rattle.tokens.specs.Tokens.{Token, Token.word, Token.sign, Token.op, Token.name, Token.int, Token.nat, letter, digit, name_byte, blank, spelling}
use Rattle.tokens.specs.Tokens.{nat_end_byte}
use Rattle.tokens.specs.Scanning.{Front, Front.token, Front.gap, Front.nothing, span, signs, find_sign, begins, class, signed, opens, closing, after_star}
use Rattle.tokens.specs.Scanning.{comment_front, nat_front, other_front, front_of, front, added, taken, lex}
use Rattle.tokens.proofs.Laws.NamedLaws.{Found, Found.a_word, Found.a_name, found, plain, all_plain, signs_plain}
use Rattle.tokens.specs.Kinds.{kind}
use Rattle.tokens.proofs.Laws.KindLaws.{kind_within}
use Rattle.tokens.specs.Marking.{spot_of, at_spot, marks_of, marks_from, marks}
use Rattle.text_shape.specs.Roles.{Role, code, token_of, roles}
use Rattle.text_shape.proofs.Laws.RoleLaws.{roles_yield}
use Rattle.syntax.specs.Syntax.{Program}
use Rattle.syntax.specs.Bracketing.{Derives}
use Rattle.text_shape.specs.RoleMarks.{placed}
use Rattle.resolve.specs.Named.{name_of}
use Rattle.resolve.specs.Digits.{digits_of}
use Rattle.resolve.specs.Standing.{Spelt, Stood, Stood.at_end, Stood.no_token, Stood.a_role}

-- What a token at the front says --------------------------------------------------------------

-- of what scanning finds
unfoldable Fronted : List ℕ → Front → Type 0
Fronted x (token t n) = Spelt t x
Fronted x (gap n) = Unit {0}
Fronted x nothing = Unit {0}

spelt_named : (u x : List ℕ) → name_of x ≡ u → (t : Token) → Found u t → Spelt t x
unfolding Spelt
spelt_named u x e t (a_word w f) = tt
spelt_named u x e t a_name = e

plain_spelt : (t : Token) (x : List ℕ) → plain t ≡ true → Spelt t x
unfolding plain Spelt
plain_spelt (word w) x e = tt
plain_spelt (sign g) x e = tt
plain_spelt (op o) x e = tt
plain_spelt (name y) x e = absurd (false≢true e)
plain_spelt (int p ds) x e = absurd (false≢true e)
plain_spelt (nat ds) x e = absurd (false≢true e)

pub both_parts : (s t : Bool) → (s && t) ≡ true → (s ≡ true) × (t ≡ true)
both_parts true t e = (refl, e)
both_parts false t e = absurd (false≢true e)

fronted_sign : (ts : List Token) (x y : List ℕ) → all_plain ts ≡ true → Fronted y (find_sign ts x)
unfolding find_sign all_plain Fronted
fronted_sign [] x y e = tt
fronted_sign (t ∷ ts) x y e = go (begins (spelling t) x) refl (fronted_sign ts x y (both_parts (plain t) (all_plain ts) e).1)
  where
    go : (b : Bool) → begins (spelling t) x ≡ b → Fronted y (find_sign ts x) → Fronted y (find_sign (t ∷ ts) x)
    go true f r = rw (f, find_sign) (plain_spelt t y (both_parts (plain t) (all_plain ts) e).0)
    go false f r = rw (f, find_sign) r

fronted_comment : (n : ℕ) (y : List ℕ) → Fronted y (comment_front n)
unfolding comment_front Fronted
fronted_comment zero y = tt
fronted_comment (suc n) y = tt

fronted_other : (b : ℕ) (s : List ℕ) → Fronted (b ∷ s) (other_front b s)
unfolding other_front Fronted Spelt digits_of
fronted_other b s = go (opens b s) refl (signed b s) refl
  where
    go : (t : Bool) → opens b s ≡ t → (u : Bool) → signed b s ≡ u → Fronted (b ∷ s) (other_front b s)
    go true e u f = rw (e, other_front) (fronted_comment (closing (after_star s)) (b ∷ s))
    go false e true f = rw (e, other_front, f) (refl, refl)
    go false e false f = rw (e, other_front, f) (fronted_sign signs (b ∷ s) (b ∷ s) signs_plain)

front_run : (p : ℕ → Bool) (b : ℕ) (s : List ℕ) → p b ≡ true → take (span p (b ∷ s)) (b ∷ s) ≡ b ∷ take (span p s) s
unfolding span
front_run p b s e = rw (span, e) refl

fronted_nat : (b : ℕ) (s : List ℕ) → digit b ≡ true → Fronted (b ∷ s) (nat_front b s (span digit s))
unfolding nat_front Fronted Spelt digits_of
fronted_nat b s d = go (eqb (get_or s (span digit s) 0) nat_end_byte) refl
  where
    go : (t : Bool) → eqb (get_or s (span digit s) 0) nat_end_byte ≡ t → Fronted (b ∷ s) (nat_front b s (span digit s))
    go true e = rw (nat_front, e) (front_run digit b s d)
    go false e = rw (nat_front, e) tt

fronted : (b : ℕ) (s : List ℕ) → Fronted (b ∷ s) (front (b ∷ s))
unfolding front front_of class Fronted name_of name_byte
fronted b s = go (letter b) refl (digit b) refl (blank b) refl
  where
    go : (t : Bool) → letter b ≡ t → (u : Bool) → digit b ≡ u → (v : Bool) → blank b ≡ v → Fronted (b ∷ s) (front (b ∷ s))
    go true e u f v g = rw (e, class) (spelt_named (b ∷ take (span name_byte s) s) (b ∷ s) (front_run name_byte b s (rw e refl)) _ (found _))
    go false e true f v g = rw (e, class, f) (fronted_nat b s f)
    go false e false f true g = rw (e, class, f, g) tt
    go false e false f false g = rw (e, class, f, g) (fronted_other b s)

-- Roles in their places ------------------------------------------------------------------------------

-- of the tokens that scanning finds
Placed : List ℕ → List ℕ → Option (List Token) → Type 0
Placed s ms none = Unit {0}
Placed s ms (some ts) = (rs : List Role) → map token_of rs ≡ ts → Stood s (placed ms (map code rs)) rs

placed_gap : (b : ℕ) (s ms : List ℕ) (o : Option (List Token)) → Placed s ms o → Placed (b ∷ s) (0 ∷ ms) o
unfolding Placed placed
placed_gap b s ms none h = tt
placed_gap b s ms (some ts) h = go
  where
    go : (rs : List Role) → map token_of rs ≡ ts → Stood (b ∷ s) (placed (0 ∷ ms) (map code rs)) rs
    go [] e = no_token (last ms (h [] e))
      where
        last : (ms : List ℕ) → Stood s (placed ms []) [] → Stood s ms []
        last [] p = p
        last (m ∷ ms) p = p
    go (r ∷ rs) e = no_token (h (r ∷ rs) e)

placed_token : (t : Token) (b : ℕ) (s ms : List ℕ) (o : Option (List Token)) → Spelt t (b ∷ s) → Placed s ms o → Placed (b ∷ s) (kind t ∷ ms) (added t o)
unfolding Placed placed added
placed_token t b s ms none p h = tt
placed_token t b s ms (some ts) p h = go
  where
    go : (rs : List Role) → map token_of rs ≡ t ∷ ts → Stood (b ∷ s) (placed (kind t ∷ ms) (map code rs)) rs
    go [] e = absurd (let z : ◌≡◌ {A = ℕ} 0 1 = cc in omega arith)
    go (r ∷ rs) e =
        let f : token_of r ≡ t = cc in
        let g : map token_of rs ≡ ts = cc in
        let q : Spelt (token_of r) (b ∷ s) = rw f p in
        rw (ne_eqb (kind t) 0 (λ e. omega (arith, (kind_within t).0)), placed) (a_role r q (h rs g))

all_placed : (k : ℕ) (s : List ℕ) → Placed s (marks_from k s) (lex k s)
unfolding lex marks_from at_spot marks_of Placed placed spot_of taken Fronted
all_placed k [] = base k
  where
    none_there : (rs : List Role) → map token_of rs ≡ [] → Stood [] (placed [] (map code rs)) rs
    none_there [] e = at_end
    none_there (r ∷ rs) e = absurd (let z : ◌≡◌ {A = ℕ} 0 1 = cc in omega arith)

    base : (k : ℕ) → Placed [] (marks_from k []) (lex k [])
    base zero = none_there
    base (suc k) = none_there
all_placed (suc k) (b ∷ s) = placed_gap b s (marks_from k s) (lex k s) (all_placed k s)
all_placed zero (b ∷ s) = go (front (b ∷ s)) (fronted b s) (λ n. all_placed n s)
  where
    go : (f : Front) → Fronted (b ∷ s) f → ((n : ℕ) → Placed s (marks_from n s) (lex n s))
        → Placed (b ∷ s) (marks_of (spot_of f) (λ n. marks_from n s)) (taken f (λ n. lex n s))
    go (token t n) p rec = placed_token t b s (marks_from n s) (lex n s) p (rec n)
    go (gap n) p rec = placed_gap b s (marks_from n s) (lex n s) (rec n)
    go nothing p rec = tt

-- roles of the tokens of a text stand there where its kinds were
pub roles_stand : (x : List ℕ) (rs : List Role) → lex 0 x ≡ some (map token_of rs) → Stood x (placed (marks x) (map code rs)) rs
unfolding Placed
roles_stand x rs e = let h : Placed x (marks x) (some (map token_of rs)) = rw e at (all_placed 0 x) in h rs refl

-- the roles of a derivation stand in its text
pub derivation_stands : (x : List ℕ) (ts : List Token) (c : Program) → lex 0 x ≡ some ts → Derives ts c
    → Stood x (placed (marks x) (map code (roles c))) (roles c)
derivation_stands x ts c e d = roles_stand x (roles c) (e ∙ ap (λ l. some l) (sym (roles_yield c ∙ d.yields)))
