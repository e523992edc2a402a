use Rattle.boot_resume.proofs.Once.{calls_once}
use Rattle.boot_resume.proofs.HandedOut.{calls_place}
use Rattle.boot_resume.proofs.resume.Resume.new.Goals as goal

pub returns-clause-once : goal.returns-clause-once
returns-clause-once c = λ m v page whole back other. calls_once m v page whole back other

pub returns-clause-pages : goal.returns-clause-pages
returns-clause-pages c = λ m v. calls_place m v
