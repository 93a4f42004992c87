-- Laws of a step's beginning on memory (000's rules InitG and InitL): which numbers of an instance change, and to what.
use Prim.Native.Nat.{ℕ, zero, suc, ◌%◌, ◌<◌}
use Rattle.std.specs.Prelude.{◌≡◌, Bool, true, false, ◌&&◌, List, length, get_or, set, leb}
use Rattle.std.proofs.Math.Path.{refl}
use Rattle.std.proofs.Common.{sym, ◌∙◌, arith, length-set, get_or-set_same, get_or-set_other, lt-length-set}
use Rattle.types.specs.Limits.{step_names}
use Rattle.layout.specs.Layout.{head, head_size, struct_of, height_of, next_of, end_of, begun}
use Rattle.memory.specs.Plan.{from, to}
use Rattle.memory.specs.Move.{means, begin_one, begin_all}

-- the numbers of instance k are the same in both
abbrev pub Same : ℕ → List ℕ → List ℕ → Type 0
Same k h g = (f : ℕ) → f < head_size → get_or h (head k f) 0 ≡ get_or g (head k f) 0

module _ (h : List ℕ) (l a e : ℕ) where
  -- all but three numbers stay
  begun_past : (j : ℕ) → (j ≡ head l height_of → ⊥) → (j ≡ head l next_of → ⊥) → (j ≡ head l end_of → ⊥) → get_or (begun h l a e) j 0 ≡ get_or h j 0
  begun_past j x y z =
      get_or-set_other (set (set h (head l height_of) 0) (head l next_of) a) (head l end_of) j e 0 z
      ∙ get_or-set_other (set h (head l height_of) 0) (head l next_of) j a 0 y
      ∙ get_or-set_other h (head l height_of) j 0 0 x

  pub begun_struct : get_or (begun h l a e) (head l struct_of) 0 ≡ get_or h (head l struct_of) 0
  begun_struct = begun_past (head l struct_of) (omega arith) (omega arith) (omega arith)

  begun_length : length (begun h l a e) ≡ length h
  begun_length = simp length-set

  module _ (fits : head l end_of < length h) where
    pub begun_height : get_or (begun h l a e) (head l height_of) 0 ≡ 0
    begun_height =
        get_or-set_other (set (set h (head l height_of) 0) (head l next_of) a) (head l end_of) (head l height_of) e 0 (omega arith)
        ∙ get_or-set_other (set h (head l height_of) 0) (head l next_of) (head l height_of) a 0 (omega arith)
        ∙ get_or-set_same h (head l height_of) 0 0 (omega arith)

    pub begun_next : get_or (begun h l a e) (head l next_of) 0 ≡ a
    begun_next =
        get_or-set_other (set (set h (head l height_of) 0) (head l next_of) a) (head l end_of) (head l next_of) e 0 (omega arith)
        ∙ get_or-set_same (set h (head l height_of) 0) (head l next_of) a 0 (lt-length-set h (head l height_of) 0 (omega arith))

    pub begun_end : get_or (begun h l a e) (head l end_of) 0 ≡ e
    begun_end =
        get_or-set_same (set (set h (head l height_of) 0) (head l next_of) a) (head l end_of) e 0
        (lt-length-set (set h (head l height_of) 0) (head l next_of) a (lt-length-set h (head l height_of) 0 fits))

module _ (spans : List ℕ) (c : ℕ) where
  -- whether an instance of struct k begins the step
  abbrev pub begins : ℕ → Bool
  begins k = means c k && leb (from spans k (c % step_names)) (to spans k (c % step_names))

  module _ (h : List ℕ) (l : ℕ) where
    abbrev k₀ : ℕ
    k₀ = get_or h (head l struct_of) 0

    pub one_begins : {k : ℕ} → get_or h (head l struct_of) 0 ≡ k → begins k ≡ true
        → begin_one spans c h l ≡ begun h l (from spans k (c % step_names)) (to spans k (c % step_names))
    unfolding begin_one
    one_begins s t = rw (s, t, begin_one) (rw s)

    pub one_stays : {k : ℕ} → get_or h (head l struct_of) 0 ≡ k → begins k ≡ false → begin_one spans c h l ≡ h
    unfolding begin_one
    one_stays s t = rw (s, t, begin_one)

    -- the list keeps its length
    pub one_length : length (begin_one spans c h l) ≡ length h
    one_length = go (begins k₀) refl
      where
        go : (t : Bool) → begins k₀ ≡ t → length (begin_one spans c h l) ≡ length h
        go true t = rw (one_begins refl t) (begun_length h l (from spans k₀ (c % step_names)) (to spans k₀ (c % step_names)))
        go false t = rw (one_stays refl t)

    -- the others keep their numbers
    pub one_others : (j : ℕ) → (j ≡ l → ⊥) → Same j h (begin_one spans c h l)
    one_others j n f q = go (begins k₀) refl
      where
        go : (t : Bool) → begins k₀ ≡ t → get_or h (head j f) 0 ≡ get_or (begin_one spans c h l) (head j f) 0
        go true t =
            rw (one_begins refl t)
            (sym (begun_past h l (from spans k₀ (c % step_names)) (to spans k₀ (c % step_names)) (head j f) (omega arith) (omega arith) (omega arith)))
        go false t = rw (one_stays refl t)

  pub all_length : (h : List ℕ) (l n : ℕ) → length (begin_all spans c h l n) ≡ length h
  unfolding begin_all
  all_length h l zero = refl
  all_length h l (suc n) = all_length (begin_one spans c h l) (suc l) n ∙ one_length h l
