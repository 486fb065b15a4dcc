use Rattle.kl_heads.proofs.FoundText.{is_file_text, text_shows}
use Rattle.kl_heads.proofs.OneEnd.{one_text}
use Rattle.kl_heads.proofs.OneFile.{only_file}
use Rattle.kl_heads.proofs.Shown.{first_shown}
use Rattle.kl_heads.proofs.SoFar.{headless_stays, stated, stays_headless}
use Rattle.kl_heads.proofs.laws.text_laws.Goals as goal

pub returns-clause-is : goal.returns-clause-is
returns-clause-is c = is_file_text

pub returns-clause-only : goal.returns-clause-only
returns-clause-only c = only_file

pub returns-clause-shows : goal.returns-clause-shows
returns-clause-shows c = text_shows

pub returns-clause-one_text : goal.returns-clause-one_text
returns-clause-one_text c = one_text

pub returns-clause-front : goal.returns-clause-front
returns-clause-front c = first_shown

pub returns-clause-stated : goal.returns-clause-stated
returns-clause-stated c = stated

pub returns-clause-headless : goal.returns-clause-headless
returns-clause-headless c = headless_stays

pub returns-clause-only_headless : goal.returns-clause-only_headless
returns-clause-only_headless c = stays_headless
