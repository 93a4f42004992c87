-- Scanning is exact: it comes to some tokens exactly where the text parts into them, and a text parts into tokens in one way at most.
use Rattle.std.specs.Prelude.{ℕ, zero, suc, ◌≤◌, ◌≡◌, refl, true, ◌↔◌, List, [], ◌∷◌, ◌++◌, length, take, drop}
use Rattle.std.proofs.Common.{arith, ap, ◌∙◌, append_assoc, length-append, length-drop, take-append-drop}
use Rattle.std.proofs.Math.Option.{Option, none, some}
use Rattle.tokens.specs.Tokens.{Token, between, letter, digit, blank, spelling, Proper}
use Rattle.tokens.specs.Lexing.{close, Comment, Closes, Gap, Gap.blank_byte, Gap.comment, Longest, Lexed, Lexed.end, Lexed.gap, Lexed.token}
use Rattle.tokens.specs.Scanning.{Front, Front.token as token_front, Front.gap as gap_front, Front.nothing, class, opens, comment_front}
use Rattle.tokens.specs.Scanning.{after_star, other_front, front_of, front, added, taken, lex}
use Rattle.tokens.proofs.Laws.ByteLaws.{class_blank, closing_first}
use Rattle.tokens.proofs.Laws.NamedLaws.{At}
use Rattle.tokens.proofs.Laws.FrontLaws.{Sound, Sound.token_sound, Sound.gap_sound, front_sound}
use Rattle.tokens.proofs.Laws.CoverLaws.{Covers, covers}
use Rattle.tokens.specs.Bytes.{star, slash}

-- What stands is found ----------------------------------------------------------------------

-- a front of some bytes, as found, and its size
pub record Ahead (x u : List ℕ) (f : ℕ → Front) : Type 0 where
  pub behind : ℕ
  pub sized : length u ≡ suc behind
  pub met : front x ≡ f behind

pub blank_ahead : (b : ℕ) (s : List ℕ) → blank b ≡ true → front (b ∷ s) ≡ gap_front 0
unfolding front front_of
blank_ahead b s e = rw (class_blank b e) refl

comment_ahead : (w s : List ℕ) → Closes w → front (slash ∷ star ∷ (w ++ (close ++ s))) ≡ gap_front (suc (suc (suc (length w))))
unfolding front front_of class letter digit blank between other_front opens after_star comment_front
comment_ahead w s c = rw (closing_first w s c) refl

pub gap_ahead : (u s : List ℕ) → Gap u → Ahead (u ++ s) u gap_front
gap_ahead u s (blank_byte {b = b} e) = record { behind = 0; sized = refl; met = blank_ahead b s e }
gap_ahead u s (comment w c) =
    record {
      behind = suc (suc (suc (length w)));
      sized = ap (λ n. suc (suc n)) (length-append w close ∙ omega arith);
      met = rw (append_assoc w close s) (comment_ahead w s c);
    }

pub token_ahead : (t : Token) (s : List ℕ) → Proper t → Longest (spelling t) s → Ahead (spelling t ++ s) (spelling t) (token_front t)
token_ahead t s p l = go (front (spelling t ++ s)) refl (front_sound (spelling t ++ s)) (covers t s p l.no_comment)
  where
    go : (f : Front) → front (spelling t ++ s) ≡ f → Sound (spelling t ++ s) f → Covers f t → Ahead (spelling t ++ s) (spelling t) (token_front t)
    go (token_front u n) e (token_sound a c) (h, k) =
        let m : length (spelling u) ≤ length (spelling t) = l.most u (drop (suc n) (spelling t ++ s)) a.proper a.whole in
        let z : length (spelling t) ≡ suc n = let y = a.sized in omega arith in
        record { behind = n; sized = z; met = e ∙ ap (λ v. token_front v n) (k z) }
    go (gap_front n) e q c = absurd c
    go nothing e q c = absurd c

-- bytes of what was taken before are passed over
lex_past : (u s : List ℕ) → lex (length u) (u ++ s) ≡ lex 0 s
unfolding lex
lex_past [] s = refl
lex_past (b ∷ u) s = lex_past u s

pub lex_gap : (u s : List ℕ) → Ahead (u ++ s) u gap_front → lex 0 (u ++ s) ≡ lex 0 s
unfolding lex taken
lex_gap [] s a = absurd (omega (arith, a.sized))
lex_gap (b ∷ u) s a = rw a.met (ap (λ n. lex n (u ++ s)) (omega (arith, a.sized)) ∙ lex_past u s)

pub lex_token : (t : Token) (u s : List ℕ) → Ahead (u ++ s) u (token_front t) → lex 0 (u ++ s) ≡ added t (lex 0 s)
unfolding lex taken
lex_token t [] s a = absurd (omega (arith, a.sized))
lex_token t (b ∷ u) s a = rw a.met (ap (added t) (ap (λ n. lex n (u ++ s)) (omega (arith, a.sized)) ∙ lex_past u s))

pub lexed_read : {x : List ℕ} {ts : List Token} → Lexed x ts → lex 0 x ≡ some ts
unfolding lex added
lexed_read end = refl
lexed_read (gap {s = s} u g e r) = rw (← e) (lex_gap u s (gap_ahead u s g) ∙ lexed_read r)
lexed_read (token {s = s} t p l e r) = rw (← e) (lex_token t (spelling t) s (token_ahead t s p l) ∙ ap (added t) (lexed_read r))

-- What is found stands ------------------------------------------------------------------------

-- what is found is the longest token
pub longest : (x : List ℕ) (t : Token) (n : ℕ) → front x ≡ token_front t n → At x t n → (Comment x → ⊥) → Longest (spelling t) (drop (suc n) x)
longest x t n e a c =
    record {
      no_comment = λ d. c (rw a.whole at d);
      most = λ u v p q. most u v p (q ∙ a.whole);
    }
  where
    most : (u : Token) (v : List ℕ) → Proper u → spelling u ++ v ≡ x → length (spelling u) ≤ length (spelling t)
    most u v p q =
        let k : Covers (front x) u = rw q at (covers u v p (λ d. c (rw q at d))) in
        let h : length (spelling u) ≤ suc n = (rw e at k).0 in
        let z = a.sized in
        omega arith

-- a token that is found ends inside the text
pub token_inside : (b : ℕ) (s : List ℕ) (t : Token) (n : ℕ) → At (b ∷ s) t n → n ≤ length s
token_inside b s t n a =
    let y = a.sized in
    let w = ap length a.whole in
    omega (arith, length-append (spelling t) (drop n s), length-drop n s)

pub read_lexed : (x : List ℕ) (k : ℕ) (ts : List Token) → k ≤ length x → lex k x ≡ some ts → Lexed (drop k x) ts
unfolding lex taken added
read_lexed [] zero ts h e = let f : [] ≡ ts = cc in rw (← f) end
read_lexed [] (suc k) ts h e = absurd (omega arith)
read_lexed (b ∷ s) (suc k) ts h e = read_lexed s k ts (omega arith) e
read_lexed (b ∷ s) zero ts h e = go (front (b ∷ s)) refl (front_sound (b ∷ s)) e (λ k us. read_lexed s k us)
  where
    go : (f : Front) → front (b ∷ s) ≡ f → Sound (b ∷ s) f → taken f (λ n. lex n s) ≡ some ts
        → ((k : ℕ) (us : List Token) → k ≤ length s → lex k s ≡ some us → Lexed (drop k s) us) → Lexed (b ∷ s) ts
    go (token_front t n) q (token_sound a c) r rec = more (lex n s) refl r
      where
        more : (o : Option (List Token)) → lex n s ≡ o → added t o ≡ some ts → Lexed (b ∷ s) ts
        more none f g = absurd (let z : ◌≡◌ {A = ℕ} 0 1 = cc in omega arith)
        more (some us) f g =
            let w : t ∷ us ≡ ts = cc in
            rw (← w) (token t a.proper (longest (b ∷ s) t n q a c) a.whole (rec n us (token_inside b s t n a) f))
    go (gap_front n) q (gap_sound g l) r rec = gap (take (suc n) (b ∷ s)) g (take-append-drop (suc n) (b ∷ s)) (rec n ts (omega arith) r)
    go nothing q c r rec = absurd (let z : ◌≡◌ {A = ℕ} 0 1 = cc in omega arith)

-- The statements ------------------------------------------------------------------------------

-- scanning comes to tokens exactly where the text parts into them
pub lexed_exact : (x : List ℕ) (ts : List Token) → (lex 0 x ≡ some ts) ↔ Lexed x ts
lexed_exact x ts = (read_lexed x 0 ts (omega arith), lexed_read)

-- and it parts in one way
pub lexed_one : {x : List ℕ} {ts us : List Token} → Lexed x ts → Lexed x us → ts ≡ us
lexed_one l m = let e = lexed_read l in let f = lexed_read m in cc
