-- `nat` meets its contract.
use Rattle.lexer.specs.FrontSpots.{nat_spot, nat_stray}
use Rattle.std.proofs.Common.{sym, ◌∙◌}
use Rattle.lexer.proofs.nat.Goals as goal

pub returns-then-byte-eq-NAT_END : goal.returns-then-byte-eq-NAT_END
returns-then-byte-eq-NAT_END c b = nat_spot b _ _ c.digits-more.ensures (sym c.byte.ensures ∙ c.if-byte-eq-NAT_END.true)

pub returns-else-byte-eq-NAT_END : goal.returns-else-byte-eq-NAT_END
returns-else-byte-eq-NAT_END c b = nat_stray b _ _ c.digits-more.ensures (λ e. c.if-byte-eq-NAT_END.false (c.byte.ensures ∙ e))
