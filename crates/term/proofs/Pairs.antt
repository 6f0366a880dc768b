-- Two facts that one lemma proves, each where it is asked for.

pub together : {A B C : Type 0} → A × B → (A → B → C) → C
together p f = f p.0 p.1
