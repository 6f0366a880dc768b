-- `kinds::put_code` meets its contract.
use Rattle.kinds.proofs.Codes.{code_put}
use Rattle.term.proofs.Pairs.{together}
use Rattle.kinds.proofs.put_code.Goals as goal

pub returns : goal.returns
returns c = together (code_put _ _ _ _ _ _ c.args.code _ c.kind_of-kind.ensures.range c.requires (c.put_decimal-end.ensures.contents, c.put_decimal-end.ensures.end) (c.put_kind.ensures.out_value, c.put_kind.ensures.value)) (λ first rest. record { out_value = first; value = rest })
