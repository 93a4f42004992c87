-- Where the steps of a program stand in a stream that is read (01, 'Program stream').
use Rattle.std.specs.Prelude.{ℕ, ◌≡◌, refl, List, [], ◌∷◌, map, Bool, true, false, length, ltb}
use Rattle.std.proofs.Common.{arith, sym, ◌∙◌}
use Rattle.std.proofs.lemmas.List.{length-map}
use Rattle.types.specs.Limits.{fix_levels}
use Rattle.types.specs.Types.{Ty}
use Rattle.program.specs.Tree.{Items, Step, Program}
use Rattle.program.specs.Reader.{Result, Result.ok, Result.bad, wrong_end, pair, many, ended, whole, read_params, read_steps, read_items, read_item}
use Rattle.program.specs.Reader.{read_program, read}
use Rattle.program.proofs.Laws.PartLaws.{made_ok}
use Rattle.commands.specs.Bounds.{arities}
use Rattle.emit.specs.Written.{structs_at}
use Rattle.emit.specs.Laws.ReadLaws.{then_value, made_value, pair_value, pair_ok}

-- behind the parameter lists of a program stand the steps of its structs
pub record Standing (s : List ℕ) (at : ℕ) (p : Program) : Type 0 where
  pub behind : ℕ
  pub params : read_params s at ≡ ok p.params behind
  pub last : ℕ
  pub steps : structs_at (arities p) s (length (arities p)) behind ≡ ok p.steps last

-- they stand where a program was read
pub program_steps : (s : List ℕ) (at : ℕ) (p : Program) (m : ℕ) → read_program s at ≡ ok p m → Standing s at p
unfolding read_program
program_steps s at p m e =
    let v = made_value program_of (pair (read_params s at) behind) (rw e tt) in
    let w = pair_value (read_params s at) behind (rw v.2 tt) in
    let u = pair_value (many [] ◌∷◌ (read_steps (map length w.0) s) (length w.0) w.1) (λ ss. schedule w.0) (rw w.5 tt) in
    go w.0 w.1 u.0 u.1 u.2 u.3 w.4 u.4 u.5
  where
    program_of : List (List Ty) × (List (List Step) × Items) → Program
    program_of p = record { params = p.0; steps = p.1.0; schedule = p.1.1 }

    schedule : List (List Ty) → ℕ → Result Items
    schedule ts m = read_items (map length ts) s (read_item (map length ts) s fix_levels) m

    behind : List (List Ty) → ℕ → Result (List (List Step) × Items)
    behind ts k = pair (many [] ◌∷◌ (read_steps (map length ts) s) (length ts) k) λ ss. schedule ts

    go : (ts : List (List Ty)) (k : ℕ) (ss : List (List Step)) (i : ℕ) (is : Items) (n : ℕ) → read_params s at ≡ ok ts k
        → many [] ◌∷◌ (read_steps (map length ts) s) (length ts) k ≡ ok ss i → schedule ts i ≡ ok is n → Standing s at p
    go ts k ss i is n a b c =
        let q : read_program s at ≡ ok (program_of (ts, (ss, is))) n = made_ok program_of (pair_ok behind a (pair_ok (λ ss. schedule ts) b c)) in
        let r : ok p m ≡ ok (program_of (ts, (ss, is))) n = sym e ∙ q in
        let x : p ≡ program_of (ts, (ss, is)) = cc in
        rw x (record { behind = k; params = a; last = i; steps = rw (length-map ts length) b })

-- a program that ends before its stream is refused, any other not
short : (s : List ℕ) (a : Program) (k : ℕ) → ltb k (length s) ≡ true → ended s a k ≡ bad k wrong_end
unfolding ended
short s a k h = rw (ended, h)

long : (s : List ℕ) (a : Program) (k : ℕ) → ltb k (length s) ≡ false → ended s a k ≡ ok a k
unfolding ended
long s a k h = rw (ended, h)

-- a whole stream is a program from its beginning
pub whole_program : (s : List ℕ) (p : Program) (m : ℕ) → read s ≡ ok p m → read_program s 0 ≡ ok p m
unfolding read whole
whole_program s p m e =
    let v = then_value (read_program s 0) (ended s) (rw e tt) in
    let f : ended s v.0 v.1 ≡ ok p m = sym v.3 ∙ e in
    v.2 ∙ at_end v.0 v.1 f
  where
    at_end : (a : Program) (k : ℕ) → ended s a k ≡ ok p m → ok a k ≡ ok p m
    at_end a k = go (ltb k (length s)) refl
      where
        go : (t : Bool) → ltb k (length s) ≡ t → ended s a k ≡ ok p m → ok a k ≡ ok p m
        go true h f = let z : ◌≡◌ {A = ℕ} 0 1 = cc (short s a k h) in absurd (omega arith)
        go false h f = sym (long s a k h) ∙ f
