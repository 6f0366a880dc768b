-- What a search shows in the answer buffer, which held `before`.
use Rattle.std.specs.Prelude.{ℕ, List}
use Rattle.answers.specs.declared.Part.{Part}
use Rattle.parts.specs.Shown.{shown_parts}
use Rattle.search.specs.Level.{Reply}
use Rattle.search.specs.declared.Finding.{Finding}
use Rattle.search.specs.declared.Finding.TheVariants.{Found, Failed, Spent}

-- only what is found is shown
unfoldable pub shown_by : Finding → List Part → List ℕ → List ℕ
shown_by Found parts before = shown_parts parts before
shown_by Failed parts before = before
shown_by Spent parts before = before

abbrev pub shown_in : Reply → List ℕ → List ℕ
shown_in r before = shown_by r.outcome r.parts before
