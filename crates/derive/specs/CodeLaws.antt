-- Each token leads to a code: the acts go to codes alone, which one test says that is computed over all entries.
use Rattle.std.specs.Prelude.{ℕ, ◌*◌, ◌+◌, ◌<◌, ◌≡◌, refl, Bool, true, false, List, [], ◌∷◌, T, leb, ltb}
use Rattle.std.proofs.Common.{arith, ltb→lt, leb-true, leb-false}
use Rattle.syntax.specs.Expecting.{word_number, sign_number, on_word, on_sign, on_name, on_op, less, on_less, literal_word, on_literal, type_word, on_type_word}
use Rattle.syntax.specs.Expecting.{on_type}
use Rattle.text_shape.specs.Shape.{Shape, Shape.shape, on_exp, on_item, past_item, acts, act, acted, acted_below, moved, move, samples, sample}
use Rattle.derive.specs.Table.{entries, act_at}
use Rattle.text_shape.specs.CodeNames.{codes}
use Rattle.derive.specs.TableLaws.{each, each_below}
use Rattle.derive.specs.IndexLaws.{index_in, index_row, act_out}
use Rattle.derive.specs.Held.{Kept, Kept.kept}
use Rattle.text_shape.specs.declared.Act.{Act}
use Rattle.text_shape.specs.declared.Act.TheVariants.{Go, Open, Below, Stop}
use Rattle.tokens.specs.KindNames.{kinds}

-- what an act goes to is a code
goes : Act → Bool
goes (Go q) = ltb q codes
goes (Open q r) = ltb q codes
goes Below = true
goes Stop = true

all_go : T (each (λ i. goes (act_at i)) entries)
unfolding each goes act_at act acts on_exp on_item past_item samples sample word_number sign_number on_word on_sign on_name on_op less on_less literal_word
    on_literal type_word on_type_word on_type
all_go = tt

entry_goes : (i : ℕ) → i < entries → T (goes (act_at i))
entry_goes = each_below (λ i. goes (act_at i)) entries all_go

-- of every byte
act_goes : (q k : ℕ) → T (goes (act q (sample k)))
unfolding act_at
act_goes q k = by_code (leb codes q) refl
  where
    by_kind : q < codes → (b : Bool) → leb kinds k ≡ b → T (goes (act q (sample k)))
    by_kind l true e = rw (index_row act q k (leb-true kinds k e)) at (entry_goes (q * kinds) (omega arith))
    by_kind l false e = let h = leb-false kinds k e in rw (index_in act q k h) at (entry_goes (q * kinds + k) (omega (arith, h)))

    by_code : (b : Bool) → leb codes q ≡ b → T (goes (act q (sample k)))
    by_code true e = rw (act_out q k (leb-true codes q e)) at (entry_goes 0 (omega arith))
    by_code false e = by_kind (leb-false codes q e) (leb kinds k) refl

-- a shape in a code
In : Shape → Type 0
In (shape q st) = q < codes

acted_in : (a : Act) (st : List ℕ) → T (goes a) → In (acted a st)
unfolding In acted goes
acted_in (Go q) st t = ltb→lt q codes t
acted_in (Open q r) st t = ltb→lt q codes t
acted_in Below st t = omega arith
acted_in Stop st t = omega arith

below_in : (st : List ℕ) (k : ℕ) → In (acted_below st (sample k))
unfolding In acted_below
below_in [] k = omega arith
below_in (r ∷ st) k = acted_in (act r (sample k)) st (act_goes r k)

moved_in : (a : Act) (st : List ℕ) (k : ℕ) → T (goes a) → In (moved a st (sample k))
unfolding In moved goes
moved_in (Go q) st k t = ltb→lt q codes t
moved_in (Open q r) st k t = ltb→lt q codes t
moved_in Below st k t = below_in st k
moved_in Stop st k t = omega arith

move_in : (x : Shape) (k : ℕ) → In (move x (sample k))
unfolding move
move_in (shape q st) k = moved_in (act q (sample k)) st k (act_goes q k)

kept_in : {q h : ℕ} {s : List ℕ} {x : Shape} → Kept q h s x → In x → q < codes
unfolding In
kept_in (kept e) l = l

pub move_code : {q h : ℕ} {s : List ℕ} (x : Shape) (k : ℕ) → Kept q h s (move x (sample k)) → q < codes
move_code x k h = kept_in h (move_in x k)
