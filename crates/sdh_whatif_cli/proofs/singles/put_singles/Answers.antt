use Rattle.std.proofs.Common.{◌∙◌, ◌++◌, List, ℕ, codes, ap}
use Rattle.sdh_whatif_cli.specs.declared.ask.Kind.TheVariants as kind
use Rattle.sdh_whatif_cli.specs.Singles.{kind_record, own_record}
use Rattle.sdh_whatif_cli.proofs.Parts.{onto}
use Rattle.sdh_whatif_cli.proofs.singles.put_singles.Goals as goal

pub returns : goal.returns
returns c =
    let plan = c.args.scene.now.plan.now in
    let kinds = c.args.kinds in
    let start = c.args.line.now in
    let head = codes "kind,cases,losing,most\r\n" in
    let one = kind_record plan kinds kind.Degraded in
    let two = kind_record plan kinds kind.Fibres in
    let three = kind_record plan kinds kind.Spans in
    let four = kind_record plan kinds kind.Nodes in
    let five = kind_record plan kinds kind.Manual in
    let six = kind_record plan kinds kind.Forced in
    let to1 = onto start head one c.put.new.self c.put_record.new.line c.put.ensures c.put_record.ensures.text in
    let to2 = onto start (head ++ one) two c.put_record.new.line c.put_record-2.new.line to1 c.put_record-2.ensures.text in
    let to3 = onto start (head ++ one ++ two) three c.put_record-2.new.line c.put_record-3.new.line to2 c.put_record-3.ensures.text in
    let to4 = onto start (head ++ one ++ two ++ three) four c.put_record-3.new.line c.put_record-4.new.line to3 c.put_record-4.ensures.text in
    let to5 =
    onto start (head ++ one ++ two ++ three ++ four) five c.put_record-4.new.line c.put_record-5.new.line to4 c.put_record-5.ensures.text in
    let to6 = onto start (head ++ one ++ two ++ three ++ four ++ five) six c.put_record-5.new.line c.put_record-6.new.line to5
    c.put_record-6.ensures.text in
    let seven = own_record plan c.args.scene.now.own.now kinds in
    let to7 = onto start (head ++ one ++ two ++ three ++ four ++ five ++ six) seven c.put_record-6.new.line c.put_own.new.line to6
    c.put_own.ensures.text in
    to7 ∙ ap (λ (l : List ℕ). l ++ (head ++ one ++ two ++ three ++ four ++ five ++ six ++ seven)) c.requires.empty
