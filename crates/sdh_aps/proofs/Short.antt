-- Each line is short: `LINE_MAX` bytes are room enough.
use Rattle.std.proofs.Common.{◌≡◌, ℕ, ◌^◌, ◌<◌, ◌≤◌, ◌++◌, length, codes, decimal, refl, arith}
use Rattle.std.specs.Prelude.{Option, Some, None}
use Rattle.std.proofs.lemmas.List.{length-append}
use Rattle.sdh_ringmap.specs.declared.terms.Code.{Code}
use Rattle.sdh_ringmap.specs.declared.terms.Code.TheVariants.{Nr, Rr, Wtr, Ms, Sd, Sf, Fs}
use Rattle.sdh_kbytes.specs.declared.K.{K}
use Rattle.sdh_report.specs.Lines.{state_text, word_text}
use Rattle.sdh_report.proofs.Short.{digits_8, digits_64, short-state_text}
use Rattle.sdh_aps.specs.declared.shown.Shown.{Shown}
use Rattle.sdh_aps.specs.Lines.{code_text, far_text, heard_text, sent_text, heard_and_asked_text, signal_line}

short-code : (c : Code) → length (code_text c) ≤ 3
short-code Nr = omega arith
short-code Rr = omega arith
short-code Wtr = omega arith
short-code Ms = omega arith
short-code Sd = omega arith
short-code Sf = omega arith
short-code Fs = omega arith

short-far : (far : Option ℕ) → ((id : ℕ) → far ≡ Some id → id < 2 ^ 8) → length (far_text far) ≤ 3
short-far None small = omega arith
short-far (Some id) small = digits_8 id (small id refl)

short-heard : (w : Option K) → length (heard_text w) ≤ 5
short-heard None = omega arith
short-heard (Some w) = omega arith

short-sent : (s : Shown) → ((id : ℕ) → s.far ≡ Some id → id < 2 ^ 8) → length (sent_text s) ≤ 41
short-sent s small =
    let a = state_text s.state in
    let b = a ++ codes " far " in
    let c = b ++ far_text s.far in
    let d = c ++ codes " west " in
    let e = d ++ word_text s.sent.west in
    let f = e ++ codes " east " in
    omega (
      arith,
      length-append f (word_text s.sent.east),
      length-append e (codes " east "),
      length-append d (word_text s.sent.west),
      length-append c (codes " west "),
      length-append b (far_text s.far),
      length-append a (codes " far "),
      short-state_text s.state,
      short-far s.far small,
    )

short-asked : (s : Shown) → length (heard_and_asked_text s) ≤ 31
short-asked s =
    let a = codes " heard " ++ heard_text s.heard_west in
    let b = a ++ codes " " in
    let c = b ++ heard_text s.heard_east in
    let d = c ++ codes " asks " in
    let e = d ++ code_text s.asks_west in
    let f = e ++ codes " " in
    omega (
      arith,
      length-append f (code_text s.asks_east),
      length-append e (codes " "),
      length-append d (code_text s.asks_west),
      length-append c (codes " asks "),
      length-append b (heard_text s.heard_east),
      length-append a (codes " "),
      length-append (codes " heard ") (heard_text s.heard_west),
      short-heard s.heard_west,
      short-heard s.heard_east,
      short-code s.asks_west,
      short-code s.asks_east,
    )

pub short-signal_line : (round id : ℕ) (s : Shown) → round < 2 ^ 64 → id < 2 ^ 8 → ((far : ℕ) → s.far ≡ Some far → far < 2 ^ 8)
    → length (signal_line round id s) ≤ 128
short-signal_line round id s hr hi small =
    let a = codes "round " ++ decimal round in
    let b = a ++ codes " node " in
    let c = b ++ decimal id in
    let d = c ++ codes " " in
    let e = d ++ sent_text s in
    let f = e ++ heard_and_asked_text s in
    omega (
      arith,
      length-append f (codes "\n"),
      length-append e (heard_and_asked_text s),
      length-append d (sent_text s),
      length-append c (codes " "),
      length-append b (decimal id),
      length-append a (codes " node "),
      length-append (codes "round ") (decimal round),
      short-sent s small,
      short-asked s,
      digits_64 round hr,
      digits_8 id hi,
    )
