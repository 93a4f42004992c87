-- Laws of numbers from text: one byte after the other, and words written past the end of their places.
use Rattle.std.specs.Prelude.{ℕ, suc, ◌+◌, ◌≤◌, ◌<◌, ◌≡◌, refl, Bool, true, false, List, [], ◌∷◌, ltb, length, set, Some, None, Ok, Err}
use Rattle.std.proofs.Common.{arith, add-one, sym, ◌∙◌, length-append, drop_of_length-le, drop-cons, ltb-false}
use Rattle.std.proofs.Math.Path.{ap}
use Rattle.std.proofs.Math.ListN.{drop, get_or, get_or-append}
use Rattle.std.proofs.lemmas.List.{get_or_at}
use Rattle.std.proofs.lemmas.List.Edits.{sets}
use Rattle.std.proofs.Math.Seq.{set_out}
use Rattle.numbers.specs.Scan.{char_of, step, coded, Step, Turn, turn_of, turn_into, step_words, words_from, words, ended, go_on, scanned_from, scanned}
use Rattle.numbers.specs.declared.Char.{Char}
use Rattle.numbers.specs.declared.Char.TheVariants.{Line}
use Rattle.numbers.specs.declared.State.{State}
use Rattle.numbers.specs.declared.ScanError.{ScanError}
use Rattle.numbers.specs.declared.ScanError.TheVariants.{Long}

-- where no place is left nothing is written
pub sets_out : (l : List ℕ) (n : ℕ) (ws : List ℕ) → length l ≤ n → sets l n ws ≡ l
sets_out l n [] h = refl
sets_out l n (w ∷ ws) h = rw (set_out l n w h) (sets_out l (suc n) ws (omega arith))

-- the text from i on, with its line end
pub ended_next : (t : List ℕ) (i : ℕ) → i ≤ length t → drop i (ended t) ≡ get_or (ended t) i 0 ∷ drop (i + 1) (ended t)
ended_next t i h = rw (add-one, drop-cons (ended t) i 0 (omega (arith, length-append t (10 ∷ []))))

pub ended_none : (t : List ℕ) (i : ℕ) → length t < i → drop i (ended t) ≡ []
ended_none t i h = drop_of_length-le (ended t) {i = i} (omega (arith, length-append t (10 ∷ [])))

-- its bytes are those of the text and a line end
pub ended_byte : (t : List ℕ) (i : ℕ) → i < length t → get_or t i 0 ≡ get_or (ended t) i 0
ended_byte t i h = sym (get_or-append t (10 ∷ []) 0 i h)

pub ended_line : (t : List ℕ) (i : ℕ) → i ≡ length t → 10 ≡ get_or (ended t) i 0
ended_line t i h = sym (get_or_at t 10 [] 0 i (sym h))

-- what is written of a byte and of those behind it
words_step : (out : List ℕ) (at n m : ℕ) (u : State) (p : Step) (t : List ℕ) → Ok (u, m) ≡ turn_of (length out) at n p
    → sets (turn_into out n p) m (words_from u t) ≡ sets out n (step_words p λ v. words_from v t)
unfolding turn_of turn_into step_words
words_step out at n m u (Ok (None, v)) t e =
    let q : ◌≡◌ {A = State × ℕ} (u, m) (v, n) = cc in let a : u ≡ v = ap (λ p. p.0) q in let b : m ≡ n = ap (λ p. p.1) q in rw (a, b)
words_step out at n m u (Ok (Some w, v)) t e = go (ltb n (length out)) refl e
  where
    go : (q : Bool) → ltb n (length out) ≡ q → ◌≡◌ {A = Turn} (Ok (u, m)) (elim q [ true ↦ Ok (v, n + 1) | false ↦ Err Long ])
        → sets (set out n (coded w.first w.minus w.value)) m (words_from u t) ≡ sets out n (coded w.first w.minus w.value ∷ words_from v t)
    go true f e =
        let q : ◌≡◌ {A = State × ℕ} (u, m) (v, n + 1) = cc in let a : u ≡ v = ap (λ p. p.0) q in let b : m ≡ n + 1 = ap (λ p. p.1) q in rw (a, b, add-one)
    go false f e = let y : ◌≡◌ {A = ℕ} 0 1 = cc in absurd (omega arith)
words_step out at n m u (Err f) t e = let y : ◌≡◌ {A = ℕ} 0 1 = cc in absurd (omega arith)

-- where no number is written, none of what is behind is
words_stop : (out : List ℕ) (at n : ℕ) (p : Step) (rest : State → List ℕ) {e : ScanError} → Err e ≡ turn_of (length out) at n p
    → turn_into out n p ≡ sets out n (step_words p rest)
unfolding turn_of turn_into step_words
words_stop out at n (Ok (None, v)) rest h = let y : ◌≡◌ {A = ℕ} 0 1 = cc in absurd (omega arith)
words_stop out at n (Ok (Some w, v)) rest {e} h = go (ltb n (length out)) refl h
  where
    go : (q : Bool) → ltb n (length out) ≡ q → ◌≡◌ {A = Turn} (Err e) (elim q [ true ↦ Ok (v, n + 1) | false ↦ Err Long ])
        → set out n (coded w.first w.minus w.value) ≡ sets out n (coded w.first w.minus w.value ∷ rest v)
    go true f h = let y : ◌≡◌ {A = ℕ} 0 1 = cc in absurd (omega arith)
    go false f h =
        let l = ltb-false n (length out) f in
        set_out out n (coded w.first w.minus w.value) l ∙ sym (sets_out out n (coded w.first w.minus w.value ∷ rest v) l)
words_stop out at n (Err f) rest h = refl

-- i bytes of the text t were read: what is left leads to the answer and to the words of the whole
pub record Reached (t out₀ out : List ℕ) (s : State) (n i : ℕ) : Type 0 where
  pub within : i ≤ length t + 1
  pub kept : length out ≡ length out₀
  pub answer : scanned_from (length out₀) i n s (drop i (ended t)) ≡ scanned (length out₀) t
  pub written : sets out n (words_from s (drop i (ended t))) ≡ sets out₀ 0 (words t)

module _ {t out₀ out : List ℕ} {s : State} {n i : ℕ} (r : Reached t out₀ out s n i) where
  -- behind the last byte
  pub reached_end : length t < i → (Ok n ≡ scanned (length out₀) t) × (out ≡ sets out₀ 0 (words t))
  unfolding scanned_from words_from
  reached_end h = let e = ended_none t i h in (rw e at r.answer, rw e at r.written)

  module _ {b : ℕ} {c : Char} (l : i ≤ length t) (eb : b ≡ get_or (ended t) i 0) (ec : c ≡ char_of b) where
    -- a byte that leads on
    pub reached_next : {u : State} {m : ℕ} {out1 : List ℕ} → Ok (u, m) ≡ turn_of (length out) i n (step s c) → out1 ≡ turn_into out n (step s c)
        → length out1 ≡ length out → Reached t out₀ out1 u m (i + 1)
    unfolding scanned_from words_from go_on
    reached_next {u} {m} e f g =
        let d : drop i (ended t) ≡ get_or (ended t) i 0 ∷ drop (i + 1) (ended t) = ended_next t i l in
        let k = ap char_of eb in
        let p : step s c ≡ step s (char_of (get_or (ended t) i 0)) = ap (step s) (ec ∙ k) in
        let e1 = rw (p, r.kept) at e in
        record {
          within = omega arith;
          kept = g ∙ r.kept;
          answer = rw (d, ← e1) at r.answer;
          written = rw (f, p) (words_step out i n m u (step s (char_of (get_or (ended t) i 0))) (drop (i + 1) (ended t)) (rw p at e) ∙ rw d at r.written);
        }

    -- a byte that leads to no number
    pub reached_stop : {a : ScanError} {out1 : List ℕ} → Err a ≡ turn_of (length out) i n (step s c) → out1 ≡ turn_into out n (step s c)
        → (Err a ≡ scanned (length out₀) t) × (out1 ≡ sets out₀ 0 (words t))
    unfolding scanned_from words_from go_on
    reached_stop e f =
        let d : drop i (ended t) ≡ get_or (ended t) i 0 ∷ drop (i + 1) (ended t) = ended_next t i l in
        let p : step s c ≡ step s (char_of (get_or (ended t) i 0)) = ap (step s) (ec ∙ ap char_of eb) in
        let e1 = rw (p, r.kept) at e in (
          rw (d, ← e1) at r.answer,
          f ∙ words_stop out i n (step s c) (λ v. words_from v (drop (i + 1) (ended t))) e ∙ rw p (rw d at r.written),
        )

-- the line end behind the text
pub line_read : Line ≡ char_of 10
unfolding char_of
line_read = refl

pub reached_all : {t out₀ out : List ℕ} {s : State} {n i : ℕ} → Reached t out₀ out s n i → i ≡ length t → {u : State} {m : ℕ} {out1 : List ℕ}
    → Ok (u, m) ≡ turn_of (length out) i n (step s Line) → out1 ≡ turn_into out n (step s Line) → length out1 ≡ length out
    → (Ok m ≡ scanned (length out₀) t) × (out1 ≡ sets out₀ 0 (words t))
reached_all {t} {i = i} r h e f g = reached_end (reached_next r (omega arith) (ended_line t i h) line_read e f g) (omega arith)
