-- `kinds::put_kind` meets its contract: each arm's key decides the word.
use Rattle.kinds.proofs.Codes.{symbol_word_holds, name_word_holds, run_word_holds, complement_word_holds, refused_word_holds}
use Rattle.output.proofs.Fields.{field_as}
use Rattle.term.proofs.Pairs.{together}
use Rattle.term.proofs.Pairs.{together}
use Rattle.term.proofs.Pairs.{together}
use Rattle.term.proofs.Pairs.{together}
use Rattle.term.proofs.Pairs.{together}
use Rattle.kinds.proofs.put_kind.Goals as goal

pub returns-in-0 : goal.returns-in-0
returns-in-0 c = together (field_as _ _ _ _ _ _ _ (symbol_word_holds c.args.kind c.in-0.is) (c.put_field.ensures.contents, c.put_field.ensures.end)) (λ first rest. record { out_value = first; value = rest })

pub returns-in-1 : goal.returns-in-1
returns-in-1 c = together (field_as _ _ _ _ _ _ _ (name_word_holds c.args.kind c.in-1.is) (c.put_field-in-1.ensures.contents, c.put_field-in-1.ensures.end)) (λ first rest. record { out_value = first; value = rest })

pub returns-in-2 : goal.returns-in-2
returns-in-2 c = together (field_as _ _ _ _ _ _ _ (run_word_holds c.args.kind c.in-2.is) (c.put_field-in-2.ensures.contents, c.put_field-in-2.ensures.end)) (λ first rest. record { out_value = first; value = rest })

pub returns-in-3 : goal.returns-in-3
returns-in-3 c = together (field_as _ _ _ _ _ _ _ (complement_word_holds c.args.kind c.in-3.is) (c.put_field-in-3.ensures.contents, c.put_field-in-3.ensures.end)) (λ first rest. record { out_value = first; value = rest })

pub returns-in_default : goal.returns-in_default
returns-in_default c = together (field_as _ _ _ _ _ _ _ (refused_word_holds c.args.kind c.in_default.in_default-own.rest.0.0.0.1 c.in_default.in_default-own.rest.0.0.1 c.in_default.in_default-own.rest.0.1 c.in_default.in_default-own.rest.1) (c.put_field-in_default.ensures.contents, c.put_field-in_default.ensures.end)) (λ first rest. record { out_value = first; value = rest })
