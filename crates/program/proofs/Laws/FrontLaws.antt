-- The reader answers 4 and 5 exactly where 01 says (4 and 5 of 'Numbers from the input'), by the relations on fronts of encodings, which know
-- no reader: a stream that ends early can be completed, and the byte that is refused is the first with which no program goes on.
use Rattle.std.specs.Prelude.{ℕ, zero, suc, ◌+◌, ◌-◌, ◌<◌, ◌≡◌, refl, ◌↔◌, List, ◌∷◌, ◌++◌, length, get_or, take, drop}
use Rattle.std.proofs.Common.{arith, sym, ap, ◌∙◌, append_assoc, append-nil, length-append, take-append-drop, length-take-le, take-suc, drop-cons, take-take}
use Rattle.std.proofs.Math.Decide.{dec_lt}
use Rattle.std.proofs.lemmas.List.{take-append-le}
use Rattle.std.proofs.Math.Seq.{take-append-add}
use Rattle.types.specs.Limits.{expr_levels}
use Rattle.program.specs.Tree.{Program}
use Rattle.program.specs.Encoding.{enc_program}
use Rattle.program.specs.Levels.{levels_program}
use Rattle.program.specs.Counts.{CountsTo, Counts}
use Rattle.program.specs.Fronts.{Front, Allowed, Whole, EndsAt, EndsAt.stops_short, EndsAt.runs_on, OffendsAt}
use Rattle.program.specs.Reader.{Result, Result.ok, Result.bad, wrong_end, wrong_byte, then, whole, read_program, read}
use Rattle.program.specs.Exact.{Refused, Refused.not_allowed, Refused.ends_early, Refused.goes_on}
use Rattle.program.proofs.Laws.StandsLaws.{stands_front, stands_self}
use Rattle.program.proofs.Laws.PartLaws.{told_is}
use Rattle.program.proofs.Laws.StreamLaws.{asks, refuses}
use Rattle.program.proofs.Laws.ProgramLaws.{program_exact, program_law, program_trailing, program_final, program_first, program_refused}
use Rattle.program.specs.Follows.{Met, Met.met_whole, Met.met_deep}
use Rattle.program.proofs.Laws.FrontListLaws.{front_whole, front_front, front_rest, front_deep}
use Rattle.program.proofs.Laws.MetLaws.{met_covers, met_place, met_refused}
use Rattle.program.proofs.Laws.ProgramFollows.{counts_wider, program_follows}

-- Streams whose bytes are allowed ------------------------------------------------------------

-- a stream that is refused at its end has only allowed bytes
pub program_allowed : (s : List ℕ) → read s ≡ bad (length s) wrong_end → Allowed s
unfolding read
program_allowed s e =
    let p = program_follows.ends s 0 (omega arith) (asks program_exact s e) in
    record { program = p.0; counts = p.1; front = p.2 }

-- and can be completed
pub program_viable : (s : List ℕ) → read s ≡ bad (length s) wrong_end
    → (t : List ℕ) × (p : Program) × (CountsTo (suc expr_levels) p) × (s ++ t ≡ enc_program p)
program_viable s e = let a = program_allowed s e in let r = front_rest a.front in (r.0, a.program, a.counts, r.1)

-- the bytes of a program are allowed, and so is every front of what is
pub whole_allowed : (p : Program) → Counts p → Allowed (enc_program p)
whole_allowed p c =
    let w = stands_self (enc_program p) in
    let e = program_exact.complete (enc_program p) p 0 (length (enc_program p)) c w in
    let m = program_follows.meets (enc_program p) p 0 (length (enc_program p)) (counts_wider p c) w in
    record { program = p; counts = counts_wider p c; front = front_whole (met_covers m e) }

pub front_allowed : (n : ℕ) (s : List ℕ) → Allowed s → Allowed (take n s)
front_allowed n s a =
    record { program = a.program; counts = a.counts; front = front_front (take n s) (drop n s) (rw (take-append-drop n s) a.front) }

-- a byte that is refused stands in the stream
byte_inside : (s : List ℕ) (n : ℕ) → read s ≡ bad n wrong_byte → n < length s
byte_inside s n e = go refl (program_refused s n wrong_byte e)
  where
    go : {n k : ℕ} → k ≡ wrong_byte → Refused Counts enc_program s n k → n < length s
    go q (not_allowed l) = l
    go q ends_early = absurd (omega arith)
    go q (goes_on p b bs c r) = absurd (omega arith)

-- no byte of an allowed stream is refused, and the stream does not go on after a program's end
pub allowed_unrefused : (s : List ℕ) (n : ℕ) → Allowed s → read s ≡ bad n wrong_byte → ⊥
unfolding read
allowed_unrefused s n a e =
    let p = a.program in
    let t = front_rest a.front in
    let f = refuses program_exact (enc_program p) n (rw t.1 at (program_final s t.0 n e)) in
    let m = program_follows.meets (enc_program p) p 0 (length (enc_program p)) a.counts (stands_self (enc_program p)) in
    let o = met_refused m f in
    omega (arith, o.1, front_deep a.front o.2, byte_inside s n e)

pub allowed_ends : (s : List ℕ) (p : Program) (b : ℕ) (bs : List ℕ) → Allowed s → Counts p → s ≡ enc_program p ++ b ∷ bs → ⊥
allowed_ends s p b bs a c e =
    let q = a.program in
    let t = front_rest a.front in
    let u : enc_program p ++ (b ∷ bs ++ t.0) ≡ enc_program q = sym (append_assoc (enc_program p) (b ∷ bs) t.0) ∙ rw (← e) t.1 in
    let f = program_exact.complete (enc_program q) p 0 (length (enc_program p)) c (rw u at (stands_front (enc_program p) (b ∷ bs ++ t.0))) in
    let m = program_follows.meets (enc_program q) q 0 (length (enc_program q)) a.counts (stands_self (enc_program q)) in
    omega (arith, met_place m f, simp length-append at (ap length u))

-- what is read as a program, or refused, is no other's
unread : (s : List ℕ) (n k : ℕ) → read s ≡ bad n k → Whole s → ⊥
unread s n k e w =
    let f = (program_law s w.0 (length s)).1 (w.1, w.2, refl) in
    let z : ◌≡◌ {A = ℕ} 0 1 = cc in omega arith

-- 4 ------------------------------------------------------------------------------------------

-- a stream is refused with 4 exactly where it ends early or goes on after its end, and there
pub ends_exactly : (s : List ℕ) (n : ℕ) → (read s ≡ bad n wrong_end) ↔ EndsAt s n
ends_exactly s n = (λ e. forth e refl (program_refused s n wrong_end e), back)
  where
    forth : {n k : ℕ} → read s ≡ bad n wrong_end → k ≡ wrong_end → Refused Counts enc_program s n k → EndsAt s n
    forth e q (not_allowed l) = absurd (omega arith)
    forth e q ends_early = stops_short (program_allowed s e) (unread s _ _ e)
    forth e q (goes_on p b bs c r) = runs_on p b bs c r

    refused : {n k : ℕ} → Allowed s → read s ≡ bad n k → Refused Counts enc_program s n k → read s ≡ bad (length s) wrong_end
    refused {n = n} a e (not_allowed l) = absurd (allowed_unrefused s n a e)
    refused a e ends_early = e
    refused a e (goes_on p b bs c r) = absurd (allowed_ends s p b bs a c r)

    short : Allowed s → (Whole s → ⊥) → (r : Result Program) → read s ≡ r → read s ≡ bad (length s) wrong_end
    short a f (ok p m) e = let q = (program_law s p m).0 e in absurd (f (p, q.0, q.1))
    short a f (bad n k) e = refused a e (program_refused s n k e)

    back : {n : ℕ} → EndsAt s n → read s ≡ bad n wrong_end
    back (stops_short a f) = short a f (read s) refl
    back (runs_on p b bs c r) = rw r (program_trailing p b bs c)

-- 5 ------------------------------------------------------------------------------------------

offends_forth : (s : List ℕ) (n : ℕ) → read s ≡ bad n wrong_byte → OffendsAt s n
offends_forth s n e =
    let l = byte_inside s n e in
    let i = length-take-le n s (omega arith) in
    let q : take n s ++ get_or s n 0 ∷ drop (suc n) s ≡ s = rw (← drop-cons s n 0 l) (take-append-drop n s) in
    let f = program_first (take n s) (drop (suc n) s) (get_or s n 0) (rw (q, i) e) in
    record {
      inside = l;
      before = program_allowed (take n s) f.0;
      unfinished = unread (take n s) _ _ f.0;
      not_allowed = λ a. allowed_unrefused _ _ (rw (take-suc s n 0 l) at a) f.1;
    }

-- the place is the first: there is no other before it
first_offends : (s : List ℕ) (n m : ℕ) → OffendsAt s n → OffendsAt s m → n < m → ⊥
first_offends s n m o u l = o.not_allowed (rw (take-take (suc n) m s l) at (front_allowed (suc n) (take m s) u.before))

offends_same : (s : List ℕ) (n m : ℕ) → OffendsAt s n → OffendsAt s m → n ≡ m
offends_same s n m o u = go (dec_lt n m) (dec_lt m n)
  where
    go : Dec (n < m) → Dec (m < n) → n ≡ m
    go (yes l) d = absurd (first_offends s n m o u l)
    go (no h) (yes l) = absurd (first_offends s m n u o l)
    go (no h) (no l) = omega arith

-- a stream is refused with 5 exactly where the bytes up to a place are allowed, are no program, and the byte there is not allowed
pub offends_exactly : (s : List ℕ) (n : ℕ) → (read s ≡ bad n wrong_byte) ↔ OffendsAt s n
offends_exactly s n = (offends_forth s n, λ o. back o (read s) refl)
  where
    -- not behind a program's end
    behind : (p : Program) (b : ℕ) (bs : List ℕ) → OffendsAt s n → Counts p → s ≡ enc_program p ++ b ∷ bs → (j : ℕ)
        → n ≡ length (enc_program p) + j → ⊥
    behind p b bs o c r zero h =
        let q : take n s ≡ enc_program p = rw (r, h) (take-append-add (enc_program p) (b ∷ bs) 0 ∙ append-nil (enc_program p)) in
        o.unfinished (p, c, q)
    behind p b bs o c r (suc j) h =
        let q : take n s ≡ enc_program p ++ b ∷ take j bs = rw (r, h) (take-append-add (enc_program p) (b ∷ bs) (suc j)) in
        allowed_ends (take n s) p b (take j bs) o.before c q

    -- nor in a program
    within : (p : Program) (b : ℕ) (bs : List ℕ) → OffendsAt s n → Counts p → s ≡ enc_program p ++ b ∷ bs → n < length (enc_program p) → ⊥
    within p b bs o c r l =
        let q : take (suc n) s ≡ take (suc n) (enc_program p) = rw r (take-append-le (suc n) (enc_program p) (b ∷ bs) l) in
        o.not_allowed (rw q (front_allowed (suc n) (enc_program p) (whole_allowed p c)))

    trailing : (p : Program) (b : ℕ) (bs : List ℕ) → OffendsAt s n → Counts p → s ≡ enc_program p ++ b ∷ bs → Dec (n < length (enc_program p)) → ⊥
    trailing p b bs o c r (yes l) = within p b bs o c r l
    trailing p b bs o c r (no h) = behind p b bs o c r (n - length (enc_program p)) (omega arith)

    refused : {m k : ℕ} → OffendsAt s n → read s ≡ bad m k → Refused Counts enc_program s m k → read s ≡ bad n wrong_byte
    refused {m = m} o e (not_allowed l) = rw (offends_same s n m o (offends_forth s m e)) e
    refused o e ends_early = absurd (o.not_allowed (front_allowed (suc n) s (program_allowed s e)))
    refused o e (goes_on p b bs c r) = absurd (trailing p b bs o c r (dec_lt n (length (enc_program p))))

    back : OffendsAt s n → (r : Result Program) → read s ≡ r → read s ≡ bad n wrong_byte
    back o (ok p m) e =
        let q = (program_law s p m).0 e in
        absurd (o.not_allowed (front_allowed (suc n) s (rw q.1 (whole_allowed p q.0))))
    back o (bad m k) e = refused o e (program_refused s m k e)

-- The first offending place is one ------------------------------------------------------------

pub ends_unique : (s : List ℕ) (n m : ℕ) → EndsAt s n → EndsAt s m → n ≡ m
ends_unique s n m a b = let p = (ends_exactly s n).1 a in let q = (ends_exactly s m).1 b in cc

pub offends_unique : (s : List ℕ) (n m : ℕ) → OffendsAt s n → OffendsAt s m → n ≡ m
offends_unique = offends_same

pub ends_or_offends : (s : List ℕ) (n m : ℕ) → EndsAt s n → OffendsAt s m → ⊥
ends_or_offends s n m a b =
    let p = (ends_exactly s n).1 a in
    let q = (offends_exactly s m).1 b in
    let z : ◌≡◌ {A = ℕ} 4 5 = cc in omega arith

-- a program with one level more keeps to 01's levels exactly where none of its bytes stands deeper
pub levels_exactly : (p : Program) → CountsTo (suc expr_levels) p
    → Counts p ↔ Front expr_levels (enc_program p) (enc_program p) (levels_program p)
unfolding read whole then
levels_exactly p c = (
  λ h. front_whole (met_covers met (program_exact.complete s p 0 (length s) h (stands_self s))),
  λ f. back f refl met,
)
  where
    s : List ℕ
    s = enc_program p

    met : Met expr_levels 0 s (levels_program p) p (length s) (read_program s 0)
    met = program_follows.meets s p 0 (length s) c (stands_self s)

    back : Front expr_levels s s (levels_program p) → {r : Result Program} → read_program s 0 ≡ r
        → Met expr_levels 0 s (levels_program p) p (length s) r → Counts p
    back f e (met_whole k) = (told_is (program_exact.sound s 0) e).0
    back f e (met_deep {p = o} q h) =
        let z : read s ≡ bad o wrong_byte = rw e in
        absurd (allowed_unrefused s o (record { program = p; counts = c; front = f }) z)
