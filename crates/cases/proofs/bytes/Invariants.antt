-- What is digested so far, with the bytes that are left, is the digest of all.
use Rattle.std.proofs.Common.{◌≡◌, ◌<◌, drop}
use Rattle.cases.specs.Cases.{modulus, bytes_digest}
use Rattle.cases.proofs.bytes.Given as goal

abbrev pub invariant-loop-b : goal.invariant-loop-b
invariant-loop-b l = (l.digest < modulus) × (bytes_digest l.digest (drop l.b-index l.s) ≡ bytes_digest 0 l.s)
