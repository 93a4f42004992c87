-- What is digested so far, with the words that are left, is the digest of all.
use Rattle.std.proofs.Common.{◌≡◌, ◌<◌, drop}
use Rattle.cases.specs.Cases.{modulus, list_digest}
use Rattle.cases.proofs.digest.Given as goal

abbrev pub invariant-loop-w : goal.invariant-loop-w
invariant-loop-w l = (l.digest < modulus) × (list_digest l.digest (drop l.w-index l.list) ≡ list_digest 0 l.list)
