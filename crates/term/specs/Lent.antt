-- A language, read off what is lent of it.
use Rattle.term.specs.Language.{Language, language}
use Rattle.term.specs.declared.Language.{Language as LentLanguage}

abbrev pub language_by : LentLanguage → Language
language_by l = language l.edition l.table.now l.classes.now
