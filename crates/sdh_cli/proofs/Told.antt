-- The lines of one node more, and counts of ports.
use Rattle.std.proofs.Common.{◌≡◌, ℕ, suc, zero, ◌+◌, ◌*◌, ◌<◌, List, [], ◌∷◌, ◌++◌, length, take, refl, ap, ◌∙◌, arith, append-nil}
use Rattle.std.specs.Prelude.{slice_index_or}
use Rattle.std.specs.List.{flat_map}
use Rattle.std.proofs.lemmas.Grind.{flat_map-append}
use Rattle.sdh_basics.specs.Cells.{cells}
use Rattle.sdh_basics.proofs.CellsLaws.{cells-zero, cells-more}
use Rattle.sdh_circuits.specs.Provisioned.{Provisioned}
use Rattle.sdh_circuits.specs.declared.End.{End}
use Rattle.sdh_circuits.specs.declared.End.TheVariants.{A, B}
use Rattle.sdh_circuits.specs.declared.PortId.{PortId}
use Rattle.sdh_circuits.specs.Ends.{end_number}
use Rattle.sdh_payload.specs.declared.delivered.Delivered.{Delivered}
use Rattle.sdh_payload.specs.declared.delivered.Delivered.TheVariants.{Ais, Chunk}
use Rattle.sdh_payload.specs.Outlet.{Outlet}
use Rattle.sdh_node.specs.Rings.Held.{HeldRing}
use Rattle.sdh_report.specs.Lines.{node_line}
use Rattle.sdh_status.specs.PortLine.{PortLine}
use Rattle.sdh_report.specs.Reports.{delivered_in, chunks_of, silences_of, chunks_in, silences_in}
use Rattle.sdh_scripts.specs.Ports.{end_outlet, port_line_at, lines_from, port_lines}
use Rattle.sdh_scripts.proofs.Ports.{length-ports, ports_next}
use Rattle.sdh_scripts.proofs.Lists.{some_at}
use Rattle.sdh_owed.specs.Reports.{told_at}

pub nodes_none : (r : HeldRing) → flat_map node_line (cells (told_at r) 0) ≡ []
nodes_none r = ap (flat_map node_line) (cells-zero (told_at r))

pub nodes_more : (r : HeldRing) (i : ℕ) → flat_map node_line (cells (told_at r) (i + 1))
    ≡ flat_map node_line (cells (told_at r) i) ++ node_line (told_at r i)
nodes_more r i =
    ap (flat_map node_line) (cells-more (told_at r) i)
    ∙ flat_map-append node_line (cells (told_at r) i) (told_at r i ∷ [])
    ∙ ap (λ l. flat_map node_line (cells (told_at r) i) ++ l) (append-nil (node_line (told_at r i)))

-- ---- counts

chunks-append : (xs ys : List PortLine) → chunks_in (xs ++ ys) ≡ chunks_in xs + chunks_in ys
chunks-append [] ys = omega arith
chunks-append (x ∷ xs) ys = let h = chunks-append xs ys in omega arith

pub chunks_more : (outlet : PortId → Outlet) (cs : List Provisioned) (i : ℕ) → i < length cs
    → chunks_in (port_lines outlet (take (i + 1) cs)) ≡ chunks_in (port_lines outlet (take i cs)) +
    (chunks_of (outlet (record { circuit = i; end = A })).delivered + chunks_of (outlet (record { circuit = i; end = B })).delivered)
chunks_more outlet cs i lt =
    let here = some_at cs i lt in
    let c = here.0 in
    let line = port_line_at (end_outlet outlet) in
    ap chunks_in (ports_next line cs i c lt here.1)
    ∙ chunks-append (port_lines outlet (take i cs)) (line i c A ∷ line i c B ∷ []) ∙ omega arith

one_each : (d : Delivered) → chunks_of d + silences_of d ≡ 1
one_each Ais = refl
one_each (Chunk chunk) = refl

counts_all : (ports : List PortLine) → chunks_in ports + silences_in ports ≡ length ports
counts_all [] = refl
counts_all (p ∷ ports) = omega (arith, counts_all ports, one_each p.outlet.delivered)

-- a port that delivers no chunk delivers AIS
pub the_others : (outlet : PortId → Outlet) (cs : List Provisioned)
    → chunks_in (port_lines outlet cs) + silences_in (port_lines outlet cs) ≡ 2 * length cs
the_others outlet cs = counts_all (port_lines outlet cs) ∙ length-ports (port_line_at (end_outlet outlet)) 0 cs

-- ---- one port

port_place : (outlet : PortId → Outlet) (index : ℕ) (cs : List Provisioned) (i : ℕ) (e : End) (d : PortLine) → i < length cs
    → (slice_index_or (lines_from (end_outlet outlet) index cs) (2 * i + end_number e) d).outlet
    ≡ outlet (record { circuit = index + i; end = e })
port_place outlet index (c ∷ cs) zero A d lt =
    ap (λ k. outlet (record { circuit = k; end = A })) (let e : index ≡ index + 0 = omega arith in e)
port_place outlet index (c ∷ cs) zero B d lt =
    ap (λ k. outlet (record { circuit = k; end = B })) (let e : index ≡ index + 0 = omega arith in e)
port_place outlet index (c ∷ cs) (suc i) e d lt =
    let ports = lines_from (end_outlet outlet) index (c ∷ cs) in
    let there : 2 * suc i + end_number e ≡ suc (suc (2 * i + end_number e)) = omega arith in
    ap (λ k. (slice_index_or ports k d).outlet) there ∙ port_place outlet (index + 1) cs i e d (omega arith)
    ∙ ap (λ k. outlet (record { circuit = k; end = e })) (omega arith)
port_place outlet index [] i e d lt = absurd (omega arith)

pub delivered_is : (outlet : PortId → Outlet) (cs : List Provisioned) (port : PortId) → port.circuit < length cs
    → delivered_in (port_lines outlet cs) port ≡ (outlet port).delivered
delivered_is outlet cs port lt =
    let same : 0 + port.circuit ≡ port.circuit = omega arith in
    ap (λ o. o.delivered) (port_place outlet 0 cs port.circuit port.end _ lt)
    ∙ ap (λ k. (outlet (record { circuit = k; end = port.end })).delivered) same
