-- The bytes that a port takes from an AU-4 that arrived, and the AU-4 that it fills with the bytes that it sends
-- (pointer justification: ITU-T G.707 clause 8.1).
use Rattle.std.specs.Prelude.{ℕ, List, [], ◌∷◌, ◌++◌, take, drop}
use Rattle.sdh_payload.specs.declared.chunk.ChunkForm.{ChunkForm}
use Rattle.sdh_payload.specs.declared.chunk.ChunkForm.TheVariants.{Plain, Short, Long}

-- the bytes of `payload` before place `front`, then `middle`, then the bytes of `payload` from place `back` on
unfoldable pub around : ℕ → List ℕ → ℕ → List ℕ → List ℕ
around front middle back payload = take front payload ++ middle ++ drop back payload

-- The bytes that a port takes from an AU-4. They are the payload; at a positive justification without its three stuffed
-- bytes, indexes 783 to 785; at a negative one with the three H3 bytes before index 783.
abbrev pub taken : ChunkForm → List ℕ → List ℕ → List ℕ
taken Plain payload h3 = payload
taken Short payload h3 = around 783 [] 786 payload
taken Long payload h3 = around 783 h3 783 payload

-- the number of bytes of a chunk of this form
abbrev pub taken_len : ChunkForm → ℕ
taken_len Plain = 2349
taken_len Short = 2346
taken_len Long = 2352

-- the payload of an AU-4 in which a port sends these bytes: at a positive justification with three zeros before index
-- 783, and at a negative one without the three bytes from there on
abbrev pub laid_payload : ChunkForm → List ℕ → List ℕ
laid_payload Plain bytes = bytes
laid_payload Short bytes = around 783 (0 ∷ 0 ∷ 0 ∷ []) 783 bytes
laid_payload Long bytes = around 783 [] 786 bytes

-- the H3 bytes of a laid chunk, which carry payload at a negative justification
abbrev pub laid_h3 : ChunkForm → List ℕ → List ℕ
laid_h3 Plain bytes = 0 ∷ 0 ∷ 0 ∷ []
laid_h3 Short bytes = 0 ∷ 0 ∷ 0 ∷ []
laid_h3 Long bytes = take 3 (drop 783 bytes)
