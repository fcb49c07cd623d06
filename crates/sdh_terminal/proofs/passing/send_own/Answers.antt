use Rattle.std.proofs.Common.{◌≡◌, ap, sym, ◌∙◌}
use Rattle.sdh_frame.specs.Aus.{Au}
use Rattle.sdh_pointer.specs.declared.word.Form.{Form}
use Rattle.sdh_pointer.specs.Sending.{Generator, form_sent, word_sent, after_action}
use Rattle.sdh_terminal.specs.Passing.{Input, h3_of, h3_sent, pointers_with, au_sent}
use Rattle.sdh_terminal.specs.Tributaries.{sent_by, own_input}
use Rattle.sdh_terminal.proofs.Ports.{own_passed, own_three, own_h3}
use Rattle.sdh_terminal.proofs.passing.send_own.Goals as goal

pub returns-clause-pointers : goal.returns-clause-pointers
unfolding au_sent sent_by after_action
returns-clause-pointers c =
    let s = c.args.generator.now.sending in
    let port = c.args.port.now in
    let i : Input = own_input port in
    let f = form_sent s i.action i.value in
    let w = word_sent s i.action i.value in
    let form : c.step-form.result ≡ f = c.step-form.ensures.form ∙ (λ j. form_sent s (c.action.ensures j) (c.value.ensures.value j)) in
    let word : c.word.result.0 ≡ w =
    c.word.ensures ∙ ap (λ (g : Generator). g.word) c.step-form.ensures.next
    ∙ (λ j. word_sent s (c.action.ensures j) (c.value.ensures.value j)) in
    let three : c.h3.result ≡ h3_of i.au.pointers = c.h3.ensures ∙ own_h3 (sent_by port.feed).h3 (own_three port.feed) in
    let h3 : c.h3_sent-h3.result ≡ h3_sent f i.au.pointers =
    c.h3_sent-h3.ensures i.au.pointers three ∙ ap (λ (g : Form). h3_sent g i.au.pointers) form in
    c.pointers_with.ensures ∙ (λ j. pointers_with (word j) (h3 j))
    ∙ sym (ap (λ (a : Au). a.pointers) (own_passed port.feed.clock.form f w i.au))

pub returns-clause-payload : goal.returns-clause-payload
unfolding au_sent sent_by
returns-clause-payload c = λ n west east.
    let s = c.args.generator.now.sending in
    let port = c.args.port.now in
    let i : Input = own_input port in
    c.put.ensures.here ∙ c.payload.ensures.bytes ∙ sym (ap (λ (a : Au). a.payload)
    (own_passed port.feed.clock.form (form_sent s i.action i.value) (word_sent s i.action i.value) i.au))
