-- Why a text has no tokens, exactly (02 §1, 15): scanning comes to none exactly where a comment is not closed or a byte begins no token.
use Rattle.std.specs.Prelude.{ℕ, zero, suc, ◌≤◌, ◌≡◌, refl, Bool, true, false, ◌↔◌, ◌⊎◌, List, [], ◌∷◌, ◌++◌, length, take, drop}
use Rattle.std.proofs.Common.{arith, sym, ap, ◌∙◌, inl, inr, length-append, take-append-drop}
use Rattle.std.proofs.lemmas.Bool.{false≢true}
use Rattle.std.proofs.Math.Option.{Option, none, some}
use Rattle.tokens.specs.Bytes.{star, slash}
use Rattle.tokens.specs.Tokens.{Token, between, letter, digit, blank, spelling, Proper}
use Rattle.tokens.specs.Lexing.{close, Comment, Gap, Gap.blank_byte, Gap.comment, Lexed}
use Rattle.tokens.specs.Straying.{Strays, Strays.unclosed, Strays.no_token, Strays.past_gap, Strays.past_token}
use Rattle.tokens.specs.Scanning.{Front, Front.token as token_front, Front.gap as gap_front, Front.nothing, class, opens, comment_front}
use Rattle.tokens.specs.Scanning.{after_star, other_front, front_of, front, added, taken, lex, begins, one_more, closing}
use Rattle.tokens.proofs.Laws.ByteLaws.{closing_found, Closed, begins_front}
use Rattle.tokens.proofs.Laws.FrontLaws.{Sound, Sound.token_sound, Sound.gap_sound, front_sound, opens_comment, opens_not}
use Rattle.tokens.proofs.Laws.CoverLaws.{Covers, covers}
use Rattle.tokens.proofs.Laws.LexingLaws.{blank_ahead, gap_ahead, token_ahead, lex_gap, lex_token, longest, token_inside, lexed_read, lexed_exact}

one_more_zero : (n : ℕ) → one_more n ≡ 0 → n ≡ 0
unfolding one_more
one_more_zero zero e = refl
one_more_zero (suc n) e = absurd (omega (arith, e))

-- where no close is found there is none, and the other way round
closing_none : (s : List ℕ) → closing s ≡ 0 → (w t : List ℕ) → w ++ (close ++ t) ≡ s → ⊥
unfolding closing
closing_none [] e w t f = omega (arith, ap length f, length-append w (close ++ t))
closing_none (b ∷ s) e w t f = go (begins close (b ∷ s)) refl w f (λ v g. closing_none s g v t)
  where
    go : (z : Bool) → begins close (b ∷ s) ≡ z → (w : List ℕ) → w ++ (close ++ t) ≡ b ∷ s → ((v : List ℕ) → closing s ≡ 0 → v ++ (close ++ t) ≡ s → ⊥) → ⊥
    go true q w f rec = let g : closing (b ∷ s) ≡ 2 = rw (q, closing) refl in omega (arith, e, g)
    go false q [] f rec = false≢true (sym q ∙ rw f at (begins_front close t))
    go false q (a ∷ w) f rec =
        let g : closing (b ∷ s) ≡ one_more (closing s) = rw (q, closing) refl in
        rec w (one_more_zero (closing s) (sym g ∙ e)) (let h : w ++ (close ++ t) ≡ s = cc in h)

none_closing : (s : List ℕ) → ((w t : List ℕ) → w ++ (close ++ t) ≡ s → ⊥) → closing s ≡ 0
none_closing s h = go (closing s) refl
  where
    go : (n : ℕ) → closing s ≡ n → closing s ≡ 0
    go zero e = e
    go (suc n) e = let c : Closed s (suc n) = closing_found s n e in absurd (h c.inside c.rest c.whole)

comment_here : (s : List ℕ) → front (slash ∷ star ∷ s) ≡ comment_front (closing s)
unfolding front front_of class letter digit blank between other_front opens after_star
comment_here s = refl

comment_zero : (n : ℕ) → comment_front n ≡ nothing → n ≡ 0
unfolding comment_front
comment_zero zero e = refl
comment_zero (suc n) e = absurd (let z : ◌≡◌ {A = ℕ} 0 1 = cc in omega arith)

gap_begins : (u : List ℕ) → Gap u → (b : ℕ) (v s : List ℕ) → u ≡ b ∷ v → (w : List ℕ) → u ++ w ≡ b ∷ s → (blank b ≡ true) ⊎ Comment (b ∷ s)
gap_begins u (blank_byte {b = c} e) b v s f w g = inl (let h : c ≡ b = cc in rw (← h) e)
gap_begins u (comment w c) b v s f r g = inr ((w ++ close) ++ r, sym g)

strays_none : {x : List ℕ} → Strays x → lex 0 x ≡ none
unfolding lex taken added comment_front
strays_none (unclosed {s = s} h) = rw (comment_here s, none_closing s h, comment_front) refl
strays_none (no_token {b = b} {s = s} e c n) = go (front (b ∷ s)) refl (front_sound (b ∷ s))
  where
    go : (f : Front) → front (b ∷ s) ≡ f → Sound (b ∷ s) f → lex 0 (b ∷ s) ≡ none
    go (token_front t k) q (token_sound a d) = absurd (n t (drop (suc k) (b ∷ s)) a.proper a.whole)
    go (gap_front k) q (gap_sound g l) =
        elim (gap_begins (take (suc k) (b ∷ s)) g b (take k s) s refl (drop (suc k) (b ∷ s)) (take-append-drop (suc k) (b ∷ s))) [
          | inl t ↦ absurd (false≢true (sym e ∙ t))
          | inr d ↦ absurd (c d)
        ]
    go nothing q r = rw q refl
strays_none (past_gap {s = s} u g e r) = rw (← e) (lex_gap u s (gap_ahead u s g) ∙ strays_none r)
strays_none (past_token {s = s} t p l e r) = rw (← e) (lex_token t (spelling t) s (token_ahead t s p l) ∙ ap (added t) (strays_none r))

-- where nothing is found
stray_here : (b : ℕ) (s : List ℕ) → front (b ∷ s) ≡ nothing → Strays (b ∷ s)
stray_here b s q = go (opens b s) refl (blank b) refl
  where
    go : (z : Bool) → opens b s ≡ z → (y : Bool) → blank b ≡ y → Strays (b ∷ s)
    go true e y f =
        let h = opens_comment b s e in
        let k : comment_front (closing (after_star s)) ≡ nothing = sym (comment_here (after_star s)) ∙ (rw h at q) in
        rw h (unclosed (closing_none (after_star s) (comment_zero (closing (after_star s)) k)))
    go false e true f = absurd (let z : ◌≡◌ {A = Front} (gap_front 0) nothing = sym (blank_ahead b s f) ∙ q in let y : ◌≡◌ {A = ℕ} 0 1 = cc in omega arith)
    go false e false f = no_token f (opens_not b s e) never
      where
        never : (t : Token) (v : List ℕ) → Proper t → spelling t ++ v ≡ b ∷ s → ⊥
        never t v p g = let k : Covers (front (b ∷ s)) t = rw g at (covers t v p (λ c. opens_not b s e (rw g at c))) in rw q at k

none_strays : (x : List ℕ) (k : ℕ) → k ≤ length x → lex k x ≡ none → Strays (drop k x)
unfolding lex taken added
none_strays [] zero h e = absurd (let z : ◌≡◌ {A = ℕ} 0 1 = cc in omega arith)
none_strays [] (suc k) h e = absurd (omega arith)
none_strays (b ∷ s) (suc k) h e = none_strays s k (omega arith) e
none_strays (b ∷ s) zero h e = go (front (b ∷ s)) refl (front_sound (b ∷ s)) e (λ k. none_strays s k)
  where
    go : (f : Front) → front (b ∷ s) ≡ f → Sound (b ∷ s) f → taken f (λ n. lex n s) ≡ none
        → ((k : ℕ) → k ≤ length s → lex k s ≡ none → Strays (drop k s)) → Strays (b ∷ s)
    go (token_front t n) q (token_sound a c) r rec = more (lex n s) refl r
      where
        more : (o : Option (List Token)) → lex n s ≡ o → added t o ≡ none → Strays (b ∷ s)
        more none f g = past_token t a.proper (longest (b ∷ s) t n q a c) a.whole (rec n (token_inside b s t n a) f)
        more (some us) f g = absurd (let z : ◌≡◌ {A = ℕ} 0 1 = cc in omega arith)
    go (gap_front n) q (gap_sound g l) r rec = past_gap (take (suc n) (b ∷ s)) g (take-append-drop (suc n) (b ∷ s)) (rec n (omega arith) r)
    go nothing q c r rec = stray_here b s q

-- a text parts into no tokens exactly where a comment is not closed or a byte begins no token
pub no_tokens_exactly : (x : List ℕ) → ((ts : List Token) → Lexed x ts → ⊥) ↔ Strays x
no_tokens_exactly x = (λ f. forth (lex 0 x) refl f, λ s ts l. back ts (sym (strays_none s) ∙ lexed_read l))
  where
    forth : (o : Option (List Token)) → lex 0 x ≡ o → ((ts : List Token) → Lexed x ts → ⊥) → Strays x
    forth none e f = none_strays x 0 (omega arith) e
    forth (some ts) e f = absurd (f ts ((lexed_exact x ts).0 e))

    back : (ts : List Token) → none ≡ some ts → ⊥
    back ts e = let z : ◌≡◌ {A = ℕ} 0 1 = cc in omega arith
