mod CrcLemmas
