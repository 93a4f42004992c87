-- The answer on an image is exact: what it says holds, and it is the one answer of which that is so. So the first faulty block decides, and in it the
-- sums before the layout.
use Rattle.std.specs.Prelude.{ℕ, zero, suc, ◌*◌, ◌%◌, ◌≡◌, refl, Bool, true, false, List, length, ltb, Option, Some, None}
use Rattle.std.proofs.Common.{arith, add-one, ap, sym, ◌∙◌, subst, below_more, ltb-true, ltb-false}
use Rattle.block.specs.Block.{block_size, block_fault}
use Rattle.block.specs.BlockFaults.{HasFault, BlockSays}
use Rattle.block.proofs.Laws.BlockFaultLaws.{block_says, not_right, one_fault}
use Rattle.types.specs.Reflects.{Reflects, Reflects.holds, Reflects.fails, reflects_map, reflects_both, le_reflects, eq_reflects}
use Rattle.blocks.specs.Images.{LengthRight, length_right, most, block, count, is_last, first_fault, fault}
use Rattle.blocks.specs.Faults.{AllRight, FirstFault, FirstSays, Says}
use Rattle.block.specs.declared.Fault.{Fault}
use Rattle.block.specs.declared.Fault.TheVariants.{Length, Sum, Layout}

pub length_exact : (max n : ℕ) → Reflects (LengthRight max n) (length_right max n)
unfolding length_right
length_exact max n =
    reflects_map (λ p. record { whole = p.0; from_one = p.1.0; to_most = p.1.1 })
    (λ r. (r.whole, (r.from_one, r.to_most)))
    (reflects_both (eq_reflects (n % block_size) 0) (reflects_both (le_reflects block_size n) (le_reflects n (block_size * most max))))

pub first_says : (n : ℕ) (x : List ℕ) (k : ℕ) → FirstSays n x k (first_fault n x k)
unfolding first_fault
first_says n x zero = λ j h. absurd (omega arith)
first_says n x (suc k) = ahead (first_fault n x k) (first_says n x k)
  where
    here : (r : Option Fault) → AllRight n x k → BlockSays k (is_last n k) (block x k) r → FirstSays n x (suc k) r
    here None all right = λ j h. below_more _ k all right j (rw add-one h)
    here (Some f) all bad = record { at = k; within = omega arith; before = all; faulty = bad }

    ahead : (r : Option Fault) → FirstSays n x k r
        → FirstSays n x (suc k) (elim r [ Some f ↦ Some f | None ↦ block_fault k (is_last n k) (block x k) ])
    ahead (Some f) p = record { at = p.at; within = omega (arith, p.within); before = p.before; faulty = p.faulty }
    ahead None p = here (block_fault k (is_last n k) (block x k)) p (block_says k (is_last n k) (block x k))

-- two first faults are one
first_one : (n : ℕ) (x : List ℕ) (k : ℕ) (f g : Fault) → FirstFault n x k f → FirstFault n x k g → f ≡ g
first_one n x k f g p q = go (ltb i j) refl (ltb j i) refl
  where
    i : ℕ
    i = p.at

    j : ℕ
    j = q.at

    go : (s : Bool) → ltb i j ≡ s → (t : Bool) → ltb j i ≡ t → f ≡ g
    go true e t d = absurd (not_right i _ _ f p.faulty (q.before i (ltb-true i j e)))
    go false e true d = absurd (not_right j _ _ g q.faulty (p.before j (ltb-true j i d)))
    go false e false d =
        let same : j ≡ i = omega (arith, ltb-false i j e, ltb-false j i d) in
        one_fault i (is_last n i) (block x i) f g p.faulty
        (subst (λ (m : ℕ). HasFault m (is_last n m) (block x m) g) same q.faulty)

first_unique : (n : ℕ) (x : List ℕ) (k : ℕ) (r s : Option Fault) → FirstSays n x k r → FirstSays n x k s → r ≡ s
first_unique n x k None None p q = refl
first_unique n x k None (Some g) p q = absurd (not_right _ _ _ g q.faulty (p q.at q.within))
first_unique n x k (Some f) None p q = absurd (not_right _ _ _ f p.faulty (q p.at p.within))
first_unique n x k (Some f) (Some g) p q = ap Some (first_one n x k f g p q)

-- no other answer says what holds of the first blocks
pub first_exact : (n : ℕ) (x : List ℕ) (k : ℕ) (r : Option Fault) → FirstSays n x k r → first_fault n x k ≡ r
first_exact n x k r p = first_unique n x k (first_fault n x k) r (first_says n x k) p

-- The whole image --------------------------------------------------------------

-- what the answer says holds
pub fault_says : (max : ℕ) (x : List ℕ) → Says max x (fault max x)
unfolding fault
fault_says max x = go (length_exact max (length x))
  where
    inside : LengthRight max (length x) → (r : Option Fault) → FirstSays (count x) x (count x) r → Says max x r
    inside l None p = (l, p)
    inside l (Some Length) p = absurd p.faulty
    inside l (Some Sum) p = (l, p)
    inside l (Some Layout) p = (l, p)

    go : {t : Bool} → Reflects (LengthRight max (length x)) t
        → Says max x (elim t [ false ↦ Some Length | true ↦ first_fault (count x) x (count x) ])
    go (fails n) = n
    go (holds h) = inside h (first_fault (count x) x (count x)) (first_says (count x) x (count x))

-- under a right length an answer speaks of the blocks, and else it is the length's
of_blocks : (max : ℕ) (x : List ℕ) (r : Option Fault) → LengthRight max (length x) → Says max x r → FirstSays (count x) x (count x) r
of_blocks max x None l p = p.1
of_blocks max x (Some Length) l p = absurd (p l)
of_blocks max x (Some Sum) l p = p.1
of_blocks max x (Some Layout) l p = p.1

of_length : (max : ℕ) (x : List ℕ) (r : Option Fault) → (LengthRight max (length x) → ⊥) → Says max x r → r ≡ Some Length
of_length max x None l p = absurd (l p.0)
of_length max x (Some Length) l p = refl
of_length max x (Some Sum) l p = absurd (l p.0)
of_length max x (Some Layout) l p = absurd (l p.0)

-- and no other answer says what holds
pub fault_exact : (max : ℕ) (x : List ℕ) (r : Option Fault) → Says max x r → fault max x ≡ r
fault_exact max x r p = go (length_exact max (length x))
  where
    go : {t : Bool} → Reflects (LengthRight max (length x)) t → fault max x ≡ r
    go (holds l) =
        first_unique _ x _ (fault max x) r (of_blocks max x (fault max x) l (fault_says max x)) (of_blocks max x r l p)
    go (fails l) =
        of_length max x (fault max x) l (fault_says max x) ∙ sym (of_length max x r l p)
