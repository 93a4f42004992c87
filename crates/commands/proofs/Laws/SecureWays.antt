-- Secure commands stay so on every way, with what lives from there on beside them.
use Rattle.std.specs.Prelude.{ℕ, suc, ◌+◌, ◌-◌, ◌≤◌, ◌≡◌, refl, List, [], ◌∷◌, Bool, length, drop}
use Rattle.std.proofs.Common.{arith, ap, sym, ◌∙◌, subst, length-drop, drop-drop}
use Rattle.types.specs.Types.{Ty}
use Rattle.commands.specs.Context.{Ctx}
use Rattle.commands.specs.Noted.{Note, now_written}
use Rattle.commands.specs.Tags.{Tags, stack_after, is_this, jump, Way, Way.start, Way.on, Way.over}
use Rattle.commands.specs.Living.{alive, beside, Among}
use Rattle.commands.specs.Secure.{Secure, Secure.stop, Secure.act}

-- what a secure command leaves behind it, on either way
pub record Behind (G : Ctx) (n : Note) (c : List Note) (ms : List (List ℕ)) (χ : List Ty) : Type 0 where
  pub within : jump n ≤ length c
  pub grown : Among (alive (drop 1 ms)) (now_written n (alive ms))
  pub secure : Secure G c (drop 1 ms) (stack_after G n χ) (is_this n)
  pub grown_over : Among (alive (drop (jump n) (drop 1 ms))) (now_written n (alive ms))
  pub secure_over : Secure G (drop (jump n) c) (drop (jump n) (drop 1 ms)) (stack_after G n χ) (is_this n)

pub behind : {G : Ctx} {n : Note} {c : List Note} {ms : List (List ℕ)} {χ : List Ty} {f : Bool} → Secure G (n ∷ c) ms χ f → Behind G n c ms χ
behind (act n a j g s h r) = record { within = j; grown = g; secure = s; grown_over = h; secure_over = r }

-- what stands beside the commands behind a command, on either way
module _ (c₀ : List Note) (ls₀ : List (List ℕ)) (n : Note) (c : List Note) (short : suc (length c) ≤ length c₀) where
  pub beside_on : drop 1 (beside c₀ ls₀ (n ∷ c)) ≡ beside c₀ ls₀ c
  beside_on =
      let e : length c₀ - suc (length c) + 1 ≡ length c₀ - length c = omega arith in
      drop-drop 1 (length c₀ - suc (length c)) ls₀ ∙ ap (λ (k : ℕ). drop k ls₀) e

  pub beside_over : jump n ≤ length c → drop (jump n) (drop 1 (beside c₀ ls₀ (n ∷ c))) ≡ beside c₀ ls₀ (drop (jump n) c)
  beside_over j =
      let d : length (drop (jump n) c) ≡ length c - jump n = length-drop (jump n) c in
      let e : length c₀ - length c + jump n ≡ length c₀ - length (drop (jump n) c) = omega arith in
      ap (drop (jump n)) beside_on ∙ drop-drop (jump n) (length c₀ - length c) ls₀ ∙ ap (λ (k : ℕ). drop k ls₀) e

pub way_short : {G : Ctx} {c₀ : List Note} {x₀ : Tags} {c : List Note} {x : Tags} → Way G c₀ x₀ c x → length c ≤ length c₀
way_short start = omega arith
way_short (on w) = omega (arith, way_short w)
way_short (over {n = n} {c = c} w) = omega (arith, way_short w, length-drop (jump n) c)

pub way_secure : {G : Ctx} {c₀ : List Note} {ls₀ : List (List ℕ)} {x₀ : Tags} → Secure G c₀ ls₀ x₀.stack x₀.fresh
    → {c : List Note} {x : Tags} → Way G c₀ x₀ c x → Secure G c (beside c₀ ls₀ c) x.stack x.fresh
way_secure {c₀ = c₀} s start = let e : length c₀ - length c₀ ≡ 0 = omega arith in rw e s
way_secure {G} {c₀} {ls₀} s (on {n = n} {c = c} {x = x} w) =
    subst (λ ls. Secure G c ls (stack_after G n x.stack) (is_this n)) (beside_on c₀ ls₀ n c (way_short w)) (behind (way_secure s w)).secure
way_secure {G} {c₀} {ls₀} s (over {n = n} {c = c} {x = x} w) =
    let r = behind (way_secure s w) in
    subst (λ ls. Secure G (drop (jump n) c) ls (stack_after G n x.stack) (is_this n)) (beside_over c₀ ls₀ n c (way_short w) r.within) r.secure_over
