-- What the code has of a path that was read (01, 'Program stream'; 000, definition 2).
use Rattle.std.specs.Prelude.{ℕ, zero, suc, ◌+◌, ◌-◌, ◌<◌, ◌≤◌, ◌≡◌, refl, List, [], ◌∷◌, ◌++◌, length, get_or, set}
use Rattle.std.proofs.Common.{arith, ap, ◌∙◌, length-append}
use Rattle.program.specs.Tree.{Var}
use Rattle.program.specs.Encoding.{enc_path}
use Rattle.program.specs.Reader.{Result.ok, read_path}
use Rattle.program.specs.Exact.{Stands, Stands.letter}
use Rattle.program.proofs.Laws.StandsLaws.{stands_length, stands_in}
use Rattle.program.proofs.Laws.PartLaws.{told_is}
use Rattle.program.proofs.Laws.WordLaws.{path_exact}
use Rattle.commands.specs.Coding.{coded}
use Rattle.emit.specs.declared.Put.{Put}
use Rattle.emit.specs.Written.{Good, next_of, code_of, path_words, target_words, Ready, Placed, Wrote}
use Rattle.emit.specs.Laws.WrittenLaws.{placed_one, placed_first, placed_on, placed_as}
use Rattle.emit.specs.Laws.WordLaws.{path_off, target_off}
use Rattle.emit.specs.Leaf.{rd_words}
use Rattle.emit.specs.Laws.LeafLaws.{Reads}
use Rattle.emit.specs.Laws.ReadLaws.{value}
use Rattle.commands.specs.CommandKinds.{this_kind, wr_kind}

-- what the code has of a path of n variables
pub record PathFacts (s : List ℕ) (at n : ℕ) : Type 0 where
  pub inside : at < length s
  pub some : 0 < n
  pub fits : at + 1 + n ≤ length s
  pub code : code_of path_words (read_path s at) ≡ coded this_kind 0 0 ∷ rd_words s (at + 1) n
  pub target : code_of target_words (read_path s at) ≡ coded this_kind 0 0
      ∷ (rd_words s (at + 1) (n - 1) ++ (coded wr_kind 0 (get_or s (at + 1 + (n - 1)) 0) ∷ []))
  pub next : next_of (read_path s at) ≡ at + 1 + n

-- a path that was read has them
pub path_facts : (s : List ℕ) (at : ℕ) → Good (read_path s at) → PathFacts s at (get_or s at 0)
unfolding enc_path next_of code_of
path_facts s at g =
    let r = value (read_path s at) g in
    go r.0.0 r.0.1 r.1 r.2 (told_is (path_exact.sound s at) r.2).1
  where
    go : (v : Var) (vs : List ℕ) (m : ℕ) → read_path s at ≡ ok (v, vs) m → Stands s at (enc_path v vs) m → PathFacts s at (get_or s at 0)
    go v vs m e (letter h f w) =
        let i : suc (length vs) - 1 ≡ length vs = omega arith in
        rw f (record {
          inside = h;
          some = omega arith;
          fits = omega (arith, stands_length w, stands_in w (omega arith));
          code = rw e (path_off v vs w);
          target = rw (e, i) (target_off v vs w);
          next = rw e (stands_length w);
        })

-- there are as many reads as variables
pub rd_length : (s : List ℕ) (at n : ℕ) → length (rd_words s at n) ≡ n
unfolding rd_words
rd_length s at zero = refl
rd_length s at (suc n) = ap suc (rd_length s (at + 1) n)

-- reads are placed words
reads_placed : (s : List ℕ) (at n : ℕ) {k : ℕ} {p : Put} {out out1 : List ℕ} → Reads s at n out k p out1
    → Placed (rd_words s at n) (at + n) out k p out1
reads_placed s at n r = record { next = r.0; at = omega (arith, r.1, rd_length s at n); list = r.2 }

module _ (s : List ℕ) (at k : ℕ) (out : List ℕ) where
  -- there is room for a command more than variables
  pub path_room : Ready path_words (read_path s at) out k → k + 1 + get_or s at 0 ≤ length out
  path_room p =
      let f = path_facts s at p.good in
      omega (arith, rd_length s (at + 1) (get_or s at 0), rw f.code at p.room)

  pub target_room : Ready target_words (read_path s at) out k → k + 1 + get_or s at 0 ≤ length out
  target_room p =
      let f = path_facts s at p.good in
      omega (arith, rd_length s (at + 1) (get_or s at 0 - 1), rw (f.target, length-append) at p.room)

  -- push this and the reads are the path that is read
  pub path_wrote : Good (read_path s at) → {v : ℕ} {p : Put} {out1 out2 : List ℕ} → v ≡ coded this_kind 0 0 → out1 ≡ set out k v
      → Reads s (at + 1) (get_or s at 0) out1 (k + 1) p out2 → Wrote path_words (read_path s at) out k p out2
  path_wrote g e h r =
      let f = path_facts s at g in
      placed_as (placed_first h (reads_placed s (at + 1) (get_or s at 0) r)) (f.code ∙ rw e) f.next

  -- push this, the reads of all but the last and the write of the last are the path that is written
  pub target_wrote : Good (read_path s at) → {v w b : ℕ} {p q : Put} {out1 out2 out3 : List ℕ} → v ≡ coded this_kind 0 0 → out1 ≡ set out k v
      → Reads s (at + 1) (get_or s at 0 - 1) out1 (k + 1) p out2 → b ≡ get_or s p.next 0 → w ≡ coded wr_kind 0 b → out3 ≡ set out2 p.at w
      → q.next ≡ p.next + 1 → q.at ≡ p.at + 1 → Wrote target_words (read_path s at) out k q out3
  target_wrote g {p = p} {q = q} e h r bb ww o n a =
      let f = path_facts s at g in
      let m : at + 1 + get_or s at 0 ≡ q.next = omega (arith, r.0) in
      let rs = reads_placed s (at + 1) (get_or s at 0 - 1) r in
      placed_as (placed_first h (placed_on rs (placed_one {m = q.next} refl a o))) (f.target ∙ rw (e, ww, bb, r.0)) (f.next ∙ m)
