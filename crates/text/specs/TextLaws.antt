-- The text of a command by the tests that lead to it.
use Rattle.std.specs.Prelude.{ℕ, ◌-◌, ◌/◌, ◌%◌, ◌≤◌, ◌<◌, ◌≡◌, [], ◌∷◌, ◌++◌}
use borrow.Author.Tests.{eq-eqb, ne_eqb, lt-ltb, le-ltb}
use Rattle.types.specs.Limits.{int_half, nat_end}
use Rattle.text.specs.Listing.{decimal, int_text, value_text, push_text, keyed, other_text, parts_text, text}

module _ (t v : ℕ) where
  pub value_plain : (t ≡ 0 → ⊥) → value_text t v ≡ decimal v
  unfolding value_text
  value_plain h = rw (value_text, ne_eqb t 0 h)

  pub value_positive : t ≡ 0 → v < int_half → value_text t v ≡ decimal v
  unfolding value_text int_text
  value_positive e h = rw (value_text, eq-eqb t 0 e, int_text, lt-ltb v int_half h)

  pub value_negative : t ≡ 0 → int_half ≤ v → value_text t v ≡ (45 ∷ []) ++ decimal (nat_end - v)
  unfolding value_text int_text
  value_negative e h = rw (value_text, eq-eqb t 0 e, int_text, le-ltb v int_half h)

module _ (k v : ℕ) where
  pub other_rd : k ≡ 3 → other_text k v ≡ keyed (114 ∷ 100 ∷ 32 ∷ []) v
  unfolding other_text
  other_rd e = rw (other_text, eq-eqb k 3 e)

  module _ (n3 : k ≡ 3 → ⊥) where
    pub other_wr : k ≡ 4 → other_text k v ≡ keyed (119 ∷ 114 ∷ 32 ∷ []) v
    unfolding other_text
    other_wr e = rw (other_text, ne_eqb k 3 n3, eq-eqb k 4 e)

    module _ (n4 : k ≡ 4 → ⊥) where
      pub other_cons : k ≡ 5 → other_text k v ≡ keyed (99 ∷ 111 ∷ 110 ∷ 115 ∷ 32 ∷ []) v
      unfolding other_text
      other_cons e = rw (other_text, ne_eqb k 3 n3, ne_eqb k 4 n4, eq-eqb k 5 e)

      module _ (n5 : k ≡ 5 → ⊥) where
        pub other_if : k ≡ 6 → other_text k v ≡ keyed (105 ∷ 102 ∷ 32 ∷ []) v
        unfolding other_text
        other_if e = rw (other_text, ne_eqb k 3 n3, ne_eqb k 4 n4, ne_eqb k 5 n5, eq-eqb k 6 e)

        pub other_op : (k ≡ 6 → ⊥) → other_text k v ≡ keyed (111 ∷ 112 ∷ 32 ∷ []) v
        unfolding other_text
        other_op n6 = rw (other_text, ne_eqb k 3 n3, ne_eqb k 4 n4, ne_eqb k 5 n5, ne_eqb k 6 n6)

module _ (w : ℕ) where
  pub text_push : w % 256 ≡ 1 → text w ≡ push_text (w / 256 % 256) (w / nat_end)
  unfolding text parts_text
  text_push e = rw (text, parts_text, eq-eqb (w % 256) 1 e)

  module _ (n1 : w % 256 ≡ 1 → ⊥) where
    pub text_this : w % 256 ≡ 2 → text w ≡ 112 ∷ 117 ∷ 115 ∷ 104 ∷ 32 ∷ 116 ∷ 104 ∷ 105 ∷ 115 ∷ []
    unfolding text parts_text
    text_this e = rw (text, parts_text, ne_eqb (w % 256) 1 n1, eq-eqb (w % 256) 2 e)

    module _ (n2 : w % 256 ≡ 2 → ⊥) where
      pub text_not : w % 256 ≡ 7 → text w ≡ 110 ∷ 111 ∷ 116 ∷ []
      unfolding text parts_text
      text_not e = rw (text, parts_text, ne_eqb (w % 256) 1 n1, ne_eqb (w % 256) 2 n2, eq-eqb (w % 256) 7 e)

      pub text_other : (w % 256 ≡ 7 → ⊥) → text w ≡ other_text (w % 256) (w / nat_end)
      unfolding text parts_text
      text_other n7 = rw (text, parts_text, ne_eqb (w % 256) 1 n1, ne_eqb (w % 256) 2 n2, ne_eqb (w % 256) 7 n7)
