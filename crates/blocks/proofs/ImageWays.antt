-- One law for each way through the functions that look through an image and join its stream (01, 'Blocks').
use Prim.Native.Nat.{ℕ, zero, suc, ◌+◌, ◌*◌, ◌-◌, ◌%◌, ◌<◌, ◌≤◌}
use native.Mathlib.Omega.{arith}
use Rattle.std.proofs.Math.Nat.{add-sub_cancel_left}
use Rattle.std.proofs.Math.Numerals.{add-one}
use Rattle.std.specs.Prelude.{◌≡◌, Bool, true, false, List, take, drop, eqb, leb, Some, None, Ok, Err}
use Rattle.std.proofs.Math.Path.{ap, subst}
use Rattle.std.proofs.Common.{sym, ◌∙◌, get_or-take, get_or-drop}
use Rattle.std.proofs.Math.ListN.{length, length-append}
use borrow.Author.Tests.{eq-eqb, ne_eqb, le-leb, lt-leb, lt-ltb, le-ltb}
use Rattle.types.specs.Reflects.{reflects_iff}
use Rattle.block.specs.Put.{put}
use Rattle.block.proofs.Laws.PutLaws.{put_next, put_front}
use Rattle.block.specs.Sums.{byte}
use Rattle.block.specs.Block.{block_size, payload_size, used, used_part, block_fault}
use Rattle.little_endian.specs.Numbers.{pair_at}
use Rattle.blocks.specs.Images.{length_right, most, block, count, is_last, first_fault, fault, joined, stream, read, read_of, read_into}
use Rattle.block.proofs.Laws.BlockRoundTrip.{used_most}
use Rattle.blocks.proofs.ImageLaws.{count_length, joined_length, joined_starts}
use Rattle.blocks.specs.Faults.{AllRight, Says}
use Rattle.blocks.proofs.FaultLaws.{length_exact, fault_says}
use Rattle.block.specs.declared.Fault.{Fault}
use Rattle.block.specs.declared.Fault.TheVariants.{Length}
use Rattle.blocks.specs.declared.ReadError.TheVariants.{Faulty, Short as ShortBuffer}

-- The length of an image ---------------------------------------------------------

module _ (max n : ℕ) where
  pub not_whole : (n % 512 ≡ 0 → ⊥) → false ≡ length_right max n
  unfolding length_right
  not_whole h = rw (ne_eqb (n % 512) 0 h)

  pub no_block : n % 512 ≡ 0 → n < 512 → false ≡ length_right max n
  unfolding length_right
  no_block w h = rw (eq-eqb (n % 512) 0 w, lt-leb 512 n h)

  pub some_block : (m : ℕ) → m ≡ most max → n % 512 ≡ 0 → 512 ≤ n → leb n (512 * m) ≡ length_right max n
  unfolding length_right
  some_block m e w h = rw (eq-eqb (n % 512) 0 w, le-leb 512 n h, e)

module _ (max : ℕ) (x : List ℕ) where
  pub length_wrong : (t : Bool) → t ≡ length_right max (length x) → t ≡ false → Some Length ≡ fault max x
  unfolding fault
  length_wrong t e f = rw (sym e ∙ f, fault)

  pub length_agrees : (t : Bool) → t ≡ length_right max (length x) → t ≡ true → first_fault (count x) x (count x) ≡ fault max x
  unfolding fault
  length_agrees t e f = rw (sym e ∙ f, fault)

  pub length_blocks : (t : Bool) → t ≡ length_right max (length x) → t ≡ true → length x ≡ block_size * count x
  length_blocks t e f = count_length max x ((reflects_iff (length_exact max (length x))).0 (sym e ∙ f))

-- Blocks in order ------------------------------------------------------------------

-- block k as the part of the image that it is
pub block_at : (x : List ℕ) (k : ℕ) → take (512 * k + 512 - 512 * k) (drop (512 * k) x) ≡ block x k
unfolding block
block_at x k = rw add-sub_cancel_left

module _ (n : ℕ) (x : List ℕ) where
  pub first_more : (k : ℕ) → first_fault n x k ≡ None → block_fault k (eqb (k + 1) n) (block x k) ≡ None → first_fault n x (k + 1) ≡ None
  unfolding first_fault is_last
  first_more k before here = rw (add-one, first_fault, before) here

  first_stays : (f : Fault) (d k : ℕ) → first_fault n x k ≡ Some f → first_fault n x (k + d) ≡ Some f
  unfolding first_fault
  first_stays f zero k e = let same : k + 0 ≡ k = omega arith in rw same e
  first_stays f (suc d) k e = let same : k + suc d ≡ suc (k + d) = omega arith in rw (same, first_fault, first_stays f d k e)

  pub first_stop : (k : ℕ) (f : Fault) → k < n → first_fault n x k ≡ None → block_fault k (eqb (k + 1) n) (block x k) ≡ Some f
      → first_fault n x n ≡ Some f
  unfolding first_fault is_last
  first_stop k f h before here =
      let now : first_fault n x (suc k) ≡ Some f = rw (first_fault, before) here in
      let same : suc k + (n - suc k) ≡ n = omega arith in
      subst (λ (m : ℕ). first_fault n x m ≡ Some f) same (first_stays f (n - suc k) (suc k) now)

-- The stream -----------------------------------------------------------------------

block_byte : (x : List ℕ) (k j : ℕ) → j < 512 → byte (block x k) j ≡ byte x (512 * k + j)
unfolding block
block_byte x k j h = get_or-take 512 (drop (512 * k) x) j 0 h ∙ get_or-drop (512 * k) x j 0

pub used_at : (x : List ℕ) (k : ℕ) → pair_at x (512 * k + 2) ≡ used (block x k)
unfolding used pair_at
used_at x k =
    let three : 512 * k + 2 + 1 ≡ 512 * k + 3 = omega arith in
    rw three (omega (arith, block_byte x k 2 (omega arith), block_byte x k 3 (omega arith)))

-- what the code hands on of block k is its used part
pub part_at : (x : List ℕ) (k u : ℕ) (p : List ℕ) → u ≡ pair_at (take (512 * k + 512 - 512 * k) (drop (512 * k) x)) 2
    → p ≡ take u (drop 4 (take (512 * k + 512 - 512 * k) (drop (512 * k) x))) → p ≡ used_part (block x k)
unfolding used_part used
part_at x k u p eu ep =
    let b = block_at x k in
    ep ∙ ap (λ (n : ℕ). take n (drop 4 (take (512 * k + 512 - 512 * k) (drop (512 * k) x)))) (rw b at eu) ∙ rw b

-- and one block more is one used part more
module _ (n : ℕ) (x : List ℕ) (whole : length x ≡ block_size * n) (right : AllRight n x n) (k : ℕ) (h : k < n) where
  joined_next : length (joined x (suc k)) ≡ payload_size * k + length (used_part (block x k))
  unfolding joined
  joined_next = length-append (joined x k) (used_part (block x k)) ∙ ap (λ (m : ℕ). m + length (used_part (block x k))) (joined_length n x whole right k h)

  pub joined_fits : payload_size * k + length (used_part (block x k)) ≤ length (joined x n)
  joined_fits =
      let s = joined_starts x (suc k) n h in
      omega (arith, joined_next, ap length s.1, length-append (joined x (suc k)) s.0)

  pub join_turn : (d b b' p : List ℕ) → length (joined x n) ≤ length d → b ≡ put d 0 (joined x k) → p ≡ used_part (block x k)
      → b' ≡ put b (payload_size * k) p → b' ≡ put d 0 (joined x (k + 1))
  unfolding joined
  join_turn d b b' p fits eb ep e =
      rw add-one
      (put_next d 0 (joined x k) (used_part (block x k)) (payload_size * k) b b'
      (omega (arith, joined_length n x whole right k h)) (omega (arith, joined_fits)) eb (rw (← ep) e))

  pub used_fits : (u : ℕ) → u ≡ pair_at (take (512 * k + 512 - 512 * k) (drop (512 * k) x)) 2 → u ≤ payload_size
  unfolding used
  used_fits u e =
      let most = used_most (is_last n k) (used (block x k)) (right k h).layout.used_right in
      omega (arith, rw (block_at x k) at e)

-- What reading answers ---------------------------------------------------------------

module _ (max : ℕ) (x : List ℕ) where
  -- an accepted image has whole blocks, one at least, and all are right
  pub accepted : fault max x ≡ None → (length x ≡ block_size * count x) × (1 ≤ count x) × AllRight (count x) x (count x)
  accepted e =
      let says : Says max x None = subst (Says max x) e (fault_says max x) in
      (count_length max x says.0, omega (arith, says.0.from_one), says.1)

  module _ (room : ℕ) where
    pub read_refused : (f : Fault) → fault max x ≡ Some f → Err (Faulty f) ≡ read max x room
    unfolding read read_of
    read_refused f e = rw e

    pub read_short : (n : ℕ) → fault max x ≡ None → n ≡ length (stream x) → room < n → Err ShortBuffer ≡ read max x room
    unfolding read read_of
    read_short n e en h = rw (e, read_of, ← en, lt-ltb room n h)

    pub read_done : (n : ℕ) → fault max x ≡ None → n ≡ length (stream x) → n ≤ room → Ok n ≡ read max x room
    unfolding read read_of
    read_done n e en h = rw (e, read_of, ← en, le-ltb room n h) (ap Ok en)

pub read_after : (x d : List ℕ) (n : ℕ) → n ≡ length (stream x) → put d 0 (stream x) ≡ read_into (Ok n) (stream x) d
unfolding read_into
read_after x d n e = put_front d (stream x) ∙ rw e
