-- Laws of safe commands (01, 'The words of demand 3'): what is safe at the start stays so on every way.
use Rattle.std.specs.Prelude.{List, ◌∷◌, drop}
use Rattle.commands.specs.Context.{Ctx}
use Rattle.commands.specs.Noted.{Note}
use Rattle.commands.specs.Tags.{Tags, next, Asks, jump, Way, Way.start, Way.on, Way.over, Safe, Safe.act}

module _ {G : Ctx} {n : Note} {c : List Note} {x : Tags} where
  -- the next command of safe ones finds what it asks for
  pub ready : Safe G (n ∷ c) x → Asks G n x
  ready (act n a k k') = a

  pub safe_on : Safe G (n ∷ c) x → Safe G c (next G n x)
  safe_on (act n a k k') = k

  pub safe_over : Safe G (n ∷ c) x → Safe G (drop (jump n) c) (next G n x)
  safe_over (act n a k k') = k'

-- a safe start is safe wherever it leads
pub way_safe : {G : Ctx} {c₀ : List Note} {x₀ : Tags} {c : List Note} {x : Tags} → Safe G c₀ x₀ → Way G c₀ x₀ c x → Safe G c x
way_safe k start = k
way_safe k (on w) = safe_on (way_safe k w)
way_safe k (over w) = safe_over (way_safe k w)
