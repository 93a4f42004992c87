-- What is digested so far, with the bytes that are left, is the digest of all eight.
use Rattle.std.proofs.Common.{◌≡◌, ◌<◌, ◌-◌}
use Rattle.cases.specs.Cases.{modulus, word_digested}
use Rattle.cases.proofs.word.Given as goal

abbrev pub invariant-loop : goal.invariant-loop
invariant-loop l = (l.digest < modulus) × (word_digested (8 - l.counter) l.digest l.left ≡ word_digested 8 l.h l.w)
