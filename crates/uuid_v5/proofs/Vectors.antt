-- The UUID of version 5 that RFC 9562 gives in appendix A.4, as a theorem of the definition: antt computes it.
use mathlib.Core.Path.{◌≡◌, refl}
use mathlib.Core.List.{[], ◌∷◌}
use Rattle.fips180.specs.Fips.{pad, zeros, big_endian, schedule, next_word, steps, step, f, K, sums, block, blocks, hash, octets, digest}
use Rattle.uuid_v5.specs.Rfc9562.{octets_of, number, uuid_of, with_version, with_variant, stamped, v5}

-- "www.example.com" in the namespace of DNS names, 6ba7b810-9dad-11d1-80b4-00c04fd430c8
pub v5-example :
    uuid_of
    (v5 (octets_of (record { high = 0x6ba7b8109dad11d1; low = 0x80b400c04fd430c8 }))
    (119 ∷ 119 ∷ 119 ∷ 46 ∷ 101 ∷ 120 ∷ 97 ∷ 109 ∷ 112 ∷ 108 ∷ 101 ∷ 46 ∷ 99 ∷ 111 ∷ 109 ∷ []))
    ≡ record { high = 0x2ed6657de927568b; low = 0x95e12665a8aea6a2 }
unfolding octets_of number uuid_of with_version with_variant stamped v5 pad zeros big_endian schedule next_word steps step f K sums block blocks hash octets digest
v5-example = refl
