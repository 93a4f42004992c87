-- Laws of words as bytes: one word after the other.
use Rattle.std.specs.Prelude.{ℕ, ◌+◌, ◌≤◌, ◌<◌, ◌≡◌, List, ◌∷◌, length, set, drop, get_or, Ok, Err}
use Rattle.std.proofs.Common.{arith, ◌∙◌, drop-cons}
use Rattle.std.proofs.Math.Numerals.{add-one}
use Rattle.std.proofs.Math.Path.{sym}
use Rattle.std.proofs.Math.ListN.{length-set, drop_of_length-le}
use Rattle.std.proofs.lemmas.List.Edits.{sets}
use borrow.Author.Tests.{lt-ltb, le-ltb}
use Rattle.numbers.specs.Scan.{unmarked, bytes_of, bytes_answer}
use Rattle.numbers.specs.ScanLaws.{sets_out}
use Rattle.numbers.specs.declared.BytesError.TheVariants.{Large, Long}

-- i words of ws were written: what is left leads to the answer and to the bytes of the whole
pub record Passed (ws out₀ out : List ℕ) (i : ℕ) : Type 0 where
  pub within : i ≤ length ws
  pub kept : length out ≡ length out₀
  pub answer : bytes_answer (length out₀) i (drop i ws) ≡ bytes_answer (length out₀) 0 ws
  pub written : sets out i (bytes_of (drop i ws)) ≡ sets out₀ 0 (bytes_of ws)

module _ {ws out₀ out : List ℕ} {i : ℕ} (r : Passed ws out₀ out i) where
  pub passed_end : length ws ≤ i → (Ok i ≡ bytes_answer (length out₀) 0 ws) × (out ≡ sets out₀ 0 (bytes_of ws))
  unfolding bytes_of bytes_answer
  passed_end h = let e = drop_of_length-le ws {i = i} h in (rw e at r.answer, rw e at r.written)

  module _ (l : i < length ws) where
    next : drop i ws ≡ get_or ws i 0 ∷ drop (i + 1) ws
    next = rw (add-one, drop-cons ws i 0)

    pub passed_large : 255 < unmarked (get_or ws i 0) → (Err (Large (i + 1)) ≡ bytes_answer (length out₀) 0 ws) × (out ≡ sets out₀ 0 (bytes_of ws))
    unfolding bytes_of bytes_answer
    passed_large h =
        let t = le-ltb (unmarked (get_or ws i 0)) 256 (omega arith) in
        (rw (next, bytes_answer, t) at r.answer, rw (next, bytes_of, t) at r.written)

    module _ (h : unmarked (get_or ws i 0) ≤ 255) where
      pub passed_long : length out ≤ i → (Err Long ≡ bytes_answer (length out₀) 0 ws) × (out ≡ sets out₀ 0 (bytes_of ws))
      unfolding bytes_answer
      passed_long g =
          let t = lt-ltb (unmarked (get_or ws i 0)) 256 (omega arith) in
          let u = le-ltb i (length out₀) (omega (arith, r.kept)) in
          (rw (next, bytes_answer, t, u) at r.answer, sym (sets_out out i (bytes_of (drop i ws)) g) ∙ r.written)

      pub passed_next : i < length out → Passed ws out₀ (set out i (unmarked (get_or ws i 0))) (i + 1)
      unfolding bytes_of bytes_answer
      passed_next g =
          let t = lt-ltb (unmarked (get_or ws i 0)) 256 (omega arith) in
          let u = lt-ltb i (length out₀) (omega (arith, r.kept)) in
          record {
            within = omega arith;
            kept = length-set out i (unmarked (get_or ws i 0)) ∙ r.kept;
            answer = rw (next, bytes_answer, t, u) at r.answer;
            written = rw add-one (rw (add-one) at (rw (next, bytes_of, t) at r.written));
          }
