-- Of words in parts: where they come from, what a function has for its calls, and what it wrote after them.
use Rattle.std.specs.Prelude.{ℕ, ◌+◌, ◌-◌, ◌≤◌, ◌≡◌, refl, List, [], ◌∷◌, ◌++◌, length, set}
use Rattle.std.proofs.Common.{arith, sym, ap, ◌∙◌, append-nil, length-append}
use Rattle.program.specs.Reader.{Result, Result.ok, pair, made, many}
use Rattle.program.proofs.Laws.PartLaws.{made_ok}
use Rattle.emit.specs.declared.Put.{Put}
use Rattle.emit.specs.Written.{Good, next_of, code_of, Ready, Placed, Wrote}
use Rattle.emit.specs.Laws.WrittenLaws.{placed_none, placed_kept, placed_as, placed_on, placed_last}
use Rattle.emit.specs.Parts.{Part, Parts, Rest}
use Rattle.emit.specs.Laws.ReadLaws.{made_value, pair_value, many_value, many_none}

-- values give words in parts, by the words of what they are made of
pub part_of : {A B : Type 0} (F : A → List ℕ) (f : B → List ℕ) {R : Result A} {r : Result B} {ws : List ℕ} {a : A} {b : B} {m : ℕ}
    → R ≡ ok a m → r ≡ ok b m → F a ≡ f b ++ ws → Part F R f r ws
unfolding code_of next_of
part_of F f p q e = record { good = rw q tt; code = rw (p, q) e; next = rw (p, q) }

pub parts_of : {A B C : Type 0} (F : A → List ℕ) (f : B → List ℕ) (g : C → List ℕ) {R : Result A} {r : Result B} (q : ℕ → Result C) {ws : List ℕ}
    {a : A} {b : B} {c : C} {k m : ℕ} → R ≡ ok a m → r ≡ ok b k → q k ≡ ok c m → F a ≡ f b ++ (g c ++ ws) → Parts F R f r g q ws
unfolding code_of next_of
parts_of F f g q p h i e = record { first = rw h tt; second = rw (h, i) tt; code = rw (p, h, i) e; next = rw (p, h, i) }

-- the same reading in other terms
pub same_part : {A : Type 0} (F : A → List ℕ) {R r : Result A} → R ≡ r → Good R → Part F R F r []
same_part F p g = record { good = rw p at g; code = ap (code_of F) p ∙ sym (append-nil _); next = ap next_of p }

-- what is made of one thing, and of two
pub made_part : {A B : Type 0} (F : A → List ℕ) (f : B → List ℕ) (h : B → A) (r : Result B) {R : Result A} {ws : List ℕ} → R ≡ made h r → Good R
    → ((b : B) → F (h b) ≡ f b ++ ws) → Part F R f r ws
made_part F f h r p g e = let v = made_value h r (rw p at g) in part_of F f (p ∙ v.3) v.2 (e v.0)

pub pair_parts : {A B C : Type 0} (F : A → List ℕ) (f : B → List ℕ) (g : C → List ℕ) (h : B × C → A) (r : Result B) (q : ℕ → Result C) {R : Result A}
    {ws : List ℕ} → R ≡ made h (pair r λ b. q) → Good R → ((b : B) (c : C) → F (h (b, c)) ≡ f b ++ (g c ++ ws)) → Parts F R f r g q ws
pair_parts F f g h r q p k e =
    let v = made_value h (pair r λ b. q) (rw p at k) in
    let w = pair_value r (λ b. q) (rw v.2 tt) in
    parts_of F f g q (p ∙ made_ok h w.6) w.4 w.5 (e w.0 w.2)

module _ {A B : Type 0} {F : A → List ℕ} {R : Result A} {f : B → List ℕ} {r : Result B} {ws : List ℕ} (h : Part F R f r ws) where
  -- the part may be written
  pub part_ready : {out : List ℕ} {k : ℕ} → Ready F R out k → Ready f r out k
  part_ready w =
      record {
        good = h.good;
        room = omega (arith, simp (h.code, length-append) at w.room);
        few = omega (arith, simp (h.code, length-append) at w.few);
      }

  -- room behind the part
  pub part_room : {out : List ℕ} {k : ℕ} → Ready F R out k → {p : Put} {out1 : List ℕ} → Wrote f r out k p out1 → p.at + length ws ≤ length out1
  part_room w g = omega (arith, simp (h.code, length-append) at w.room, g.at, placed_kept g)

  -- what stands behind the part is written
  pub part_wrote : {out : List ℕ} {k : ℕ} {p q : Put} {out1 out2 : List ℕ} → Wrote f r out k p out1 → Placed ws p.next out1 p.at q out2
      → Wrote F R out k q out2
  part_wrote g i = placed_as (placed_on g i) h.code (h.next ∙ sym g.next)

-- what is read elsewhere and stands behind the part
pub part_rest : {A B C : Type 0} {F : A → List ℕ} {R : Result A} {f : B → List ℕ} {r : Result B} (t : C → List ℕ) (u : Result C)
    → Part F R f r (code_of t u) → Good u → {out : List ℕ} {k : ℕ} → Ready F R out k → {p : Put} {out1 : List ℕ} → Wrote f r out k p out1
    → Ready t u out1 p.at
part_rest t u h v w g =
    record { good = v; room = part_room h w g; few = omega (arith, simp (h.code, length-append) at w.few) }

module _ {A B : Type 0} {F : A → List ℕ} {R : Result A} {f : B → List ℕ} {r : Result B} where
  -- nothing stands behind the part
  pub part_same : Part F R f r [] → {out : List ℕ} {k : ℕ} {p : Put} {out1 : List ℕ} → Wrote f r out k p out1 → Wrote F R out k p out1
  part_same h g = placed_as g (h.code ∙ append-nil _) h.next

  -- a word stands behind the part
  pub part_last : (v : ℕ) → Part F R f r (v ∷ []) → {out : List ℕ} {k : ℕ} {p q : Put} {out1 out2 : List ℕ} → Wrote f r out k p out1
      → q.next ≡ p.next → q.at ≡ p.at + 1 → out2 ≡ set out1 p.at v → Wrote F R out k q out2
  part_last v h g i j o = placed_as (placed_last g v i j o) h.code h.next

module _ {A B C : Type 0} {F : A → List ℕ} {R : Result A} {f : B → List ℕ} {r : Result B} {g : C → List ℕ} {q : ℕ → Result C} where
  module _ {ws : List ℕ} (h : Parts F R f r g q ws) {out : List ℕ} {k : ℕ} (w : Ready F R out k) where
    -- the first part may be written
    pub parts_ready : Ready f r out k
    parts_ready =
        record {
          good = h.first;
          room = omega (arith, simp (h.code, length-append) at w.room);
          few = omega (arith, simp (h.code, length-append) at w.few);
        }

    module _ {p : Put} {out1 : List ℕ} (d : Wrote f r out k p out1) where
      -- then the second
      pub parts_next : Ready g (q p.next) out1 p.at
      parts_next =
          rw d.next (record {
            good = h.second;
            room = omega (arith, simp (h.code, length-append) at w.room, d.at, placed_kept d);
            few = omega (arith, simp (h.code, length-append) at w.few);
          })

      -- then what stands behind them
      pub parts_room : {u : Put} {out2 : List ℕ} → Wrote g (q p.next) out1 p.at u out2 → u.at + length ws ≤ length out2
      parts_room e =
          let i = rw d.next at e in
          omega (arith, simp (h.code, length-append) at w.room, d.at, placed_kept d, i.at, placed_kept e)

  module _ {out : List ℕ} {k : ℕ} {p u : Put} {out1 out2 : List ℕ} (d : Wrote f r out k p out1) (e : Wrote g (q p.next) out1 p.at u out2) where
    -- nothing stands behind them
    pub parts_same : Parts F R f r g q [] → Wrote F R out k u out2
    parts_same h = placed_as (placed_on d (rw d.next at e)) (h.code ∙ rw append-nil) h.next

    -- a word stands behind them
    pub parts_last : (v : ℕ) → Parts F R f r g q (v ∷ []) → {t : Put} {out3 : List ℕ} → t.next ≡ u.next → t.at ≡ u.at + 1
        → out3 ≡ set out2 u.at v → Wrote F R out k t out3
    parts_last v h i j o = placed_as (placed_on d (placed_last (rw d.next at e) v i j o)) h.code h.next

-- things in a row
module _ {A B : Type 0} (F : B → List ℕ) (f : A → List ℕ) (z : B) (c : A → B → B) (r : ℕ → Result A) (n at : ℕ) where
  -- nothing in the row, nothing written
  pub row_none : F z ≡ [] → n ≡ 0 → (out : List ℕ) (k : ℕ) → Wrote F (many z c r n at) out k (record { next = at; at = k }) out
  unfolding code_of next_of
  row_none e i out k = placed_as (placed_none out k at) (rw (many_none z c r n at i) e) (rw (many_none z c r n at i))

  -- a thing, and the others behind it
  pub row_more : ((a : A) (b : B) → F (c a b) ≡ f a ++ F b) → (n ≡ 0 → ⊥) → Good (many z c r n at)
      → Parts F (many z c r n at) f (r at) F (λ m. many z c r (n - 1) m) []
  row_more e i g =
      let v = many_value z c r n at i g in
      parts_of F f F (λ m. many z c r (n - 1) m) v.6 v.4 v.5 (e v.0 v.2 ∙ rw append-nil)

-- A row that a loop writes: all of it is left; the next thing may be written, and then those behind it are left; nothing is.
pub rest_all : {A : Type 0} {F : A → List ℕ} {R : Result A} {out : List ℕ} {k : ℕ} (m : ℕ) → Ready F R out k
    → Rest F R out k R (record { next = m; at = k }) out
rest_all m w = record { ready = w; kept = refl; whole = λ q out2 e. e }

module _ {A B : Type 0} (F : B → List ℕ) (f : A → List ℕ) (z : B) (c : A → B → B) (r : ℕ → Result A) (n : ℕ) {R : Result B} {out : List ℕ} {k : ℕ} {p : Put}
    {out1 : List ℕ} (x : Rest F R out k (many z c r n p.next) p out1) where
  module _ (e : (a : A) (b : B) → F (c a b) ≡ f a ++ F b) (i : n ≡ 0 → ⊥) where
    both : Parts F (many z c r n p.next) f (r p.next) F (λ m. many z c r (n - 1) m) []
    both = row_more F f z c r n p.next e i x.ready.good

    pub rest_ready : Ready f (r p.next) out1 p.at
    rest_ready = parts_ready both x.ready

    pub rest_next : {q : Put} {out2 : List ℕ} → Wrote f (r p.next) out1 p.at q out2 → Rest F R out k (many z c r (n - 1) q.next) q out2
    rest_next d =
        record { ready = parts_next both x.ready d; kept = placed_kept d ∙ x.kept; whole = λ u out3 g. x.whole u out3 (parts_same d g both) }

  pub rest_none : F z ≡ [] → n ≡ 0 → Wrote F R out k p out1
  rest_none e i =
      let w = row_none F f z c r n p.next e i out1 p.at in
      x.whole p out1 (record { next = w.next; at = w.at; list = w.list })
