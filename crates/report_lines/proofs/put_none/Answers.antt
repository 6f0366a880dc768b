-- `report_lines::put_none` meets its contract.
use Rattle.output.specs.Decimal.{decimal}
use Rattle.report_lines.specs.Line.{none_word, dash}
use Rattle.report_lines.proofs.Stores.{line_put}
use Rattle.term.proofs.Pairs.{together}
use Rattle.report_lines.proofs.put_none.Goals as goal

pub returns : goal.returns
returns c = together (line_put _ _ _ _ _ _ _ _ _ _ (decimal c.args.state) dash none_word (decimal c.args.sum) c.requires
    (c.put_decimal-end.ensures.contents, c.put_decimal-end.ensures.end) (c.put_field-end.ensures.contents, c.put_field-end.ensures.end) (c.put_field-end-2.ensures.contents, c.put_field-end-2.ensures.end) (c.put_decimal.ensures.contents, c.put_decimal.ensures.end)) (λ first rest. record { out_value = first; value = rest })
