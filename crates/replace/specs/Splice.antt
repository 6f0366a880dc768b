-- "In edition 2 the result is spliced before it is measured", by the converter's splicing (splice/specs/Splicing). What `fill` puts, spliced on the
-- way, is linked to it by proofs/Splices.
use Rattle.std.specs.Prelude.{ℕ, List, cond, Option, None}
use Rattle.term.specs.Pattern.{Pattern, Children, name, symbol, complement, end, plain, run}
use Rattle.term.specs.Term.{Term, Terms, node, nil, ◌::◌, ◌⧺◌}
use Rattle.term.specs.declared.Code.TheVariants.{Symbol}
use Rattle.term.specs.declared.Edition.{Edition}
use Rattle.term.specs.declared.Edition.TheVariants.{One, Two}
use Rattle.term.specs.Splicing.{same_list}
use Rattle.splice.specs.Splicing.{list_class, splice_term}
use Rattle.anti_pattern.specs.Language.{Language}
use Rattle.anti_pattern.specs.Meaning.{Assignment}
use Rattle.anti_pattern.specs.Place.{assigned}
use Rattle.replace.specs.Instance.{term_assigned}

abbrev pub spliced_by : Edition → List ℕ → List ℕ → Term → Term
spliced_by One classes table t = t
spliced_by Two classes table t = splice_term classes table t

abbrev pub spliced_in : Language → Term → Term
spliced_in l t = spliced_by l.edition l.classes l.table t

-- what a symbol is as a list: its class, or no list; in edition 1 no list counts as one
abbrev pub listed_by : Edition → List ℕ → List ℕ → ℕ → Option ℕ
listed_by One classes table s = None
listed_by Two classes table s = list_class classes table (Symbol s)

abbrev pub listed_in : Language → ℕ → Option ℕ
listed_in l s = listed_by l.edition l.classes l.table s

module _ (listed : ℕ → Option ℕ) where
  -- a term in front of others, as a child of what stands around it: its elements in its place, or the term itself
  abbrev pub placed : Option ℕ → Term → Terms → Terms
  placed around (node s us) ts = cond (same_list around (listed s)) (us ⧺ ts) (node s us :: ts)

  -- a run in front of others, element by element
  abbrev pub placed_all : Option ℕ → Terms → Terms → Terms
  placed_all around nil rest = rest
  placed_all around (t :: ts) rest = placed around t (placed_all around ts rest)

  -- a template with what an assignment has for its variables, spliced on the way
  abbrev mutual
    pub spliced_instance : Pattern → Assignment → Term
    spliced_instance (name v) a = term_assigned (a v)
    spliced_instance (symbol s qs) a = node s (spliced_instances (listed s) qs a)
    spliced_instance (complement q) a = node 0 nil

    pub spliced_instances : Option ℕ → Children → Assignment → Terms
    spliced_instances around end a = nil
    spliced_instances around (plain q qs) a = placed around (spliced_instance q a) (spliced_instances around qs a)
    spliced_instances around (run v qs) a = placed_all around (assigned (a v)) (spliced_instances around qs a)
