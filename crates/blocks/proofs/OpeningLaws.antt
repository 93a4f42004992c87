-- What opening an image tells its caller, for any number of blocks that are allowed (01, 'Blocks'): the fault of an image that was not read, or its
-- stream, which stands in front of the buffer.
use Rattle.std.specs.Prelude.{ℕ, ◌*◌, ◌≤◌, List, take, Option, Some, None, Result, Ok, Err}
use Rattle.std.proofs.Common.{arith, ◌∙◌}
use Rattle.std.proofs.Math.Path.{◌≡◌, refl, ap, sym}
use Rattle.std.proofs.Math.ListN.{length}
use Rattle.std.proofs.Math.Seq.{take_at}
use Rattle.block.specs.Block.{payload_size}
use Rattle.block.specs.declared.Fault.{Fault}
use Rattle.blocks.specs.Images.{fault, stream, read, read_into, opened, opened_into}
use Rattle.blocks.proofs.AnswerLaws.{read_says, stream_most}
use Rattle.blocks.specs.declared.ReadError.{ReadError}
use Rattle.blocks.specs.declared.ReadError.TheVariants.{Faulty, Short}

-- the buffer behind an image that was read, and behind one that was not
module _ (s b b' : List ℕ) (r : Result ℕ ReadError) (h : b' ≡ read_into r s b) where
  pub into_stream : (n : ℕ) → r ≡ Ok n → b' ≡ opened_into (Ok n) s b
  unfolding read_into opened_into
  into_stream n e = h ∙ ap (λ (q : Result ℕ ReadError). read_into q s b) e

  pub into_refused : (f : Fault) → r ≡ Err (Faulty f) → b' ≡ opened_into (Err f) s b
  unfolding read_into opened_into
  into_refused f e = h ∙ ap (λ (q : Result ℕ ReadError). read_into q s b) e

module _ (max : ℕ) (x : List ℕ) where
  -- One law for each way through the function that opens an image ------------------------

  module _ (room : ℕ) where
    pub open_stream : (n : ℕ) → read max x room ≡ Ok n → Ok n ≡ opened (fault max x) (length (stream x))
    unfolding opened
    open_stream n e = let h = rw e at (read_says max x room) in rw (h.0, ← h.1)

    pub open_refused : (f : Fault) → read max x room ≡ Err (Faulty f) → Err f ≡ opened (fault max x) (length (stream x))
    unfolding opened
    open_refused f e = let h : fault max x ≡ Some f = rw e at (read_says max x room) in rw h

    -- a buffer for as many blocks as are allowed is never too short
    pub open_short : payload_size * max ≤ room → read max x room ≡ Err Short → ⊥
    open_short l e = let h = rw e at (read_says max x room) in omega (arith, stream_most max x h.0, h.1)

  -- What was answered -----------------------------------------------------------------------

  abbrev answer : Result ℕ Fault
  answer = opened (fault max x) (length (stream x))

  -- an image that is refused has that fault
  pub opened_fault : (f : Fault) → answer ≡ Err f → fault max x ≡ Some f
  unfolding opened
  opened_fault f e = go (fault max x) e
    where
      go : (r : Option Fault) → opened r (length (stream x)) ≡ Err f → r ≡ Some f
      go (Some g) i = let j : g ≡ f = cc in ap Some j
      go None i = let z : ◌≡◌ {A = ℕ} 0 1 = cc in absurd (omega arith)

  -- one that is read is right, and its stream fits the payloads of as many blocks as are allowed
  pub opened_stream : (n : ℕ) → answer ≡ Ok n → (fault max x ≡ None) × (n ≡ length (stream x)) × (n ≤ payload_size * max)
  unfolding opened
  opened_stream n e = go (fault max x) refl e
    where
      go : (r : Option Fault) → fault max x ≡ r → opened r (length (stream x)) ≡ Ok n
          → (fault max x ≡ None) × (n ≡ length (stream x)) × (n ≤ payload_size * max)
      go (Some g) q i = let z : ◌≡◌ {A = ℕ} 0 1 = cc in absurd (omega arith)
      go None q i = let j : length (stream x) ≡ n = cc in (q, sym j, omega (arith, stream_most max x q))

-- and the stream stands in front of the buffer
module _ (x : List ℕ) {r : Result ℕ Fault} {n : ℕ} (b b' : List ℕ) (told : r ≡ Ok n) (h : b' ≡ opened_into r (stream x) b) where
  pub opened_as : b' ≡ opened_into (Ok n) (stream x) b
  opened_as = h ∙ ap (λ (q : Result ℕ Fault). opened_into q (stream x) b) told

  pub opened_front : n ≡ length (stream x) → take n b' ≡ stream x
  unfolding opened_into
  opened_front e = ap (take n) opened_as ∙ take_at (stream x) _ n (sym e)
