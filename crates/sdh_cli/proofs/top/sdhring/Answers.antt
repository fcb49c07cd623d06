use Rattle.sdh_shell.specs.Calls.{words_of}
use Rattle.sdh_shell.proofs.Told.{told_all}
use Rattle.sdh_cli.specs.Words.{asked}
use Rattle.sdh_cli.specs.Outcome.{told}
use Rattle.sdh_cli.proofs.Promises as promises
use Rattle.sdh_cli.proofs.top.sdhring.Goals as goal

pub returns-clause-promised : goal.returns-clause-promised
returns-clause-promised g c honest =
    let a = asked (words_of c.args.words.now) in
    told_all (told a (g.R.Source.left c.args.source.now)) _ _ (λ bytes x. promises.as_promised a _ _ _ _ bytes _ _ _ x honest)
    c.call.ensures.outcome

pub returns-clause-settles : goal.returns-clause-settles
returns-clause-settles g c honest =
    let a = asked (words_of c.args.words.now) in
    told_all (told a (g.R.Source.left c.args.source.now)) _ _ (λ bytes x. promises.settles a _ _ _ _ bytes _ _ _ x honest)
    c.call.ensures.outcome

pub returns-clause-unsettled : goal.returns-clause-unsettled
returns-clause-unsettled g c =
    let a = asked (words_of c.args.words.now) in
    told_all (told a (g.R.Source.left c.args.source.now)) _ _ (λ bytes x. promises.ends_as_it_runs a _ _ _ _ bytes _ _ _ x)
    c.call.ensures.outcome
